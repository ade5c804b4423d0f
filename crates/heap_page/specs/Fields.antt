-- Numbers of fixed width in a list of bytes, the high byte first.
use Rattle.std.specs.Prelude.{ℕ, ◌+◌, ◌<◌, List, ◌++◌, length, take, drop, slice_range, All}
use Rattle.std.specs.Int.{w16, w32, from_be_bytes}

-- the numbers of the list are bytes
abbrev pub AreBytes : List ℕ → Type 0
AreBytes bytes = All (λ byte. byte < 256) bytes

-- two bytes from a place on
abbrev pub short_at : List ℕ → ℕ → ℕ
short_at bytes at = from_be_bytes w16 (slice_range bytes at (at + 2))

-- four bytes from a place on
abbrev pub long_at : List ℕ → ℕ → ℕ
long_at bytes at = from_be_bytes w32 (slice_range bytes at (at + 4))

-- the list, with a part written over it from a place on
abbrev pub overwritten : {X : Type 0} → ℕ → List X → List X → List X
overwritten at part xs = take at xs ++ (part ++ drop (at + length part) xs)
