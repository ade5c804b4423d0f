-- What runs in a legal history.
use Rattle.std.specs.Prelude.{ℕ, ◌≢◌, ◌<◌, ◌⊎◌, true, false, List, [], ◌∷◌, Some, ◌≡◌, length}
use Rattle.std.specs.List.{AllByRecursion}
use Rattle.io_cpu_scheduler.specs.Limits.{IsLoad}
use Rattle.io_cpu_scheduler.specs.declared.load.Decision.{Decision}
use Rattle.history.specs.declared.event.Event.{Event}
use Rattle.history.specs.declared.event.Event.TheVariants as event
use Rattle.history.specs.Allowed.{Permits}
use Rattle.history.specs.Outline.{Run, outline}
use Rattle.history.specs.Projected.{given, runs}
use Rattle.history.specs.State.{load_of, held, out, is_collecting, is_full, pending, wanted, IsOpen, MaySeat}

-- every fragment that runs is one of two
abbrev pub AtMostTwo : Run → List Event → Type 0
AtMostTwo run h = (a : ℕ) × (b : ℕ) × ((f : ℕ) → f < length run.fragments → runs h f ≡ true → (f ≡ a) ⊎ (f ≡ b))

-- every fragment reads earlier ones, and its load is within the limits
abbrev pub AreOrdered : Run → Type 0
AreOrdered run = (f : ℕ) → f < length run.fragments → AllByRecursion (λ g. g < f) (outline run f).inputs × IsLoad (load_of run f)

-- no role is held or has a batch out, and nothing is being collected
abbrev pub IsStill : Run → List Event → Type 0
IsStill run h = (f : ℕ) → f < length run.fragments → ((role : ℕ) → role < 64 → (held h f role ≡ false) × (out h f role ≡ [])) × (is_collecting h f ≡ false)

-- a fragment can be collected, or a role of one be seated
abbrev pub GoesOn : Run → List Event → Type 0
GoesOn run h = ((f : ℕ) × (f < length run.fragments) × IsOpen run h f) ⊎ ((f : ℕ) × (f < length run.fragments) × MaySeat run h f)

-- a collect or a seat by this backend is allowed next
abbrev pub HasNext : Run → List Event → ℕ → Type 0
HasNext run h backend = ((f : ℕ) × Permits run h (event.Collect backend f)) ⊎ ((f : ℕ) × (role : ℕ) × Permits run h (event.Seat backend f role))

-- a decision given to a fragment that ran makes its degree pending, where the scan isn't full and that isn't wanted already
abbrev pub IsAsked : Run → List Event → Type 0
IsAsked run h =
    (f g n : ℕ) (d : Decision) → f ≢ g → runs h f ≡ true → given d f ≡ Some n → is_full run h f ≡ false → n ≢ wanted run h f
    → pending run (event.Finish g d ∷ h) f ≡ Some n
