-- What holds of the deposits of a legal history.
use Rattle.std.specs.Prelude.{ℕ, ◌<◌, true, List, ◌∷◌, ◌++◌, ◌≡◌, take}
use Rattle.page_partition.specs.Counts.{has}
use Rattle.adjust_protocol.specs.History.{Once}
use Rattle.history.specs.declared.event.Event.{Event}
use Rattle.history.specs.declared.event.Event.TheVariants as event
use Rattle.history.specs.Outline.{Run, outline}
use Rattle.history.specs.Projected.{last_claim, deposited}
use Rattle.history.specs.State.{owns}

-- every position of a fragment is deposited exactly once, and nothing else is
abbrev pub IsOnce : Run → List Event → ℕ → Type 0
IsOnce run h f = Once (deposited h f) (outline run f).positions

-- wherever a role settles, it owns what is deposited by that under the division in force before
abbrev pub AreByOwners : Run → List Event → ℕ → Type 0
AreByOwners run h f =
    (before later : List Event) (role count p : ℕ) → h ≡ later ++ event.Settle f role count ∷ before
    → has p (take count (last_claim before f role)) ≡ true → owns run before f role p ≡ true

-- each position is deposited by a settle of the role that owned it under the division in force before
abbrev pub HaveOwners : Run → List Event → ℕ → Type 0
HaveOwners run h f =
    (p : ℕ) → p < (outline run f).positions
    → (before : List Event) × (later : List Event) × (role : ℕ) × (count : ℕ) × (h ≡ later ++ event.Settle f role count ∷ before)
    × (has p (take count (last_claim before f role)) ≡ true) × (owns run before f role p ≡ true)
