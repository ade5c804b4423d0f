-- What a file tells of the bytes at its offsets, and what reads and writes there do.
use Rattle.std.specs.Prelude.{◌≡◌, ◌<◌, ◌≤◌, ◌⊎◌, ℕ, ◌+◌, ◌-◌, nat_le, List, take, get_or, if◌then◌else◌, Option, Some, None, ⊤}

-- the bytes xs from an offset on, and elsewhere those that were there
abbrev pub overlaid : (ℕ → ℕ) → ℕ → List ℕ → ℕ → ℕ
overlaid bytes offset xs place =
    if nat_le offset place then get_or xs (place - offset) (bytes place) else bytes place

-- the first n bytes of xs are those from the offset on
abbrev pub Reads : Option (ℕ → ℕ) → ℕ → ℕ → List ℕ → Type 0
Reads None offset n xs = ⊤
Reads (Some bytes) offset n xs = (i : ℕ) → i < n → get_or xs i 0 ≡ bytes (offset + i)

-- the first n bytes of xs now stand from the offset on, and nothing else is changed
abbrev pub Writes : Option (ℕ → ℕ) → Option (ℕ → ℕ) → ℕ → ℕ → List ℕ → Type 0
Writes None new offset n xs = new ≡ None
Writes (Some bytes) new offset n xs = new ≡ Some (overlaid bytes offset (take n xs))

-- only the n bytes from the offset on may have changed
abbrev pub Spoils : Option (ℕ → ℕ) → Option (ℕ → ℕ) → ℕ → ℕ → Type 0
Spoils None new offset n = new ≡ None
Spoils (Some bytes) None offset n = ⊥
Spoils (Some bytes) (Some later) offset n =
    (place : ℕ) → (place < offset) ⊎ (offset + n ≤ place) → later place ≡ bytes place
