-- Where an event is allowed after a history, and which histories are legal.
use Rattle.std.specs.Prelude.{ℕ, ◌<◌, true, false, List, [], ◌∷◌, ◌≡◌, ◌≢◌, length}
use Rattle.io_cpu_scheduler.specs.Decisions.{nothing}
use Rattle.adjust_protocol.specs.History.{Allowed}
use Rattle.adjust_protocol.specs.Moves as move
use Rattle.history.specs.declared.event.Event.{Event}
use Rattle.history.specs.declared.event.Event.TheVariants as event
use Rattle.history.specs.Outline.{Run}
use Rattle.history.specs.Projected.{is_finished, moves_of}
use Rattle.history.specs.State.{setting, held, is_collecting, IsDue, IsOpen, MaySeat, decision_after}

-- the lowest-numbered fragment with a property
abbrev pub IsLowest : Run → (ℕ → Type 0) → ℕ → Type 0
IsLowest run Has f = (f < length run.fragments) × Has f × ((g : ℕ) → g < f → Has g → ⊥)

abbrev pub NoneDue : Run → List Event → Type 0
NoneDue run h = (g : ℕ) → g < length run.fragments → IsDue run h g → ⊥

-- no fragment but f is due
abbrev pub OthersCalm : Run → List Event → ℕ → Type 0
OthersCalm run h f = (g : ℕ) → g < length run.fragments → g ≢ f → IsDue run h g → ⊥

-- nothing waits to be collected
abbrev pub NoneOpen : Run → List Event → Type 0
NoneOpen run h = (g : ℕ) → g < length run.fragments → IsOpen run h g → ⊥

abbrev pub Permits : Run → List Event → Event → Type 0
Permits run h (event.Begin d) = (h ≡ []) × (d ≡ decision_after run [])
Permits run h (event.Seat backend f role) = NoneDue run h × NoneOpen run h × IsLowest run (MaySeat run h) f × Allowed (setting run h f) (moves_of h f) (move.Seat role)
Permits run h (event.Claim f role ps) = NoneDue run h × (f < length run.fragments) × Allowed (setting run h f) (moves_of h f) (move.Claim role ps)
Permits run h (event.Settle f role count) = NoneDue run h × (f < length run.fragments) × Allowed (setting run h f) (moves_of h f) (move.Settle role count)
Permits run h (event.Divide f degree cut) = OthersCalm run h f × (f < length run.fragments) × Allowed (setting run h f) (moves_of h f) (move.Divide degree cut)
Permits run h (event.Leave f role) = OthersCalm run h f × (f < length run.fragments) × Allowed (setting run h f) (moves_of h f) (move.Leave role)
Permits run h (event.Collect backend f) = NoneDue run h × IsLowest run (IsOpen run h) f
Permits run h (event.Uncollect f) = NoneDue run h × (f < length run.fragments) × (is_collecting h f ≡ true)
Permits run h (event.Finish f d) = NoneDue run h × (f < length run.fragments) × (is_collecting h f ≡ true) × (d ≡ decision_after run (event.Finish f nothing ∷ h))

-- each event is allowed after the events before it
abbrev pub IsLegal : Run → List Event → Type 0
IsLegal run [] = Unit {0}
IsLegal run (e ∷ h) = Permits run h e × IsLegal run h

-- no fragment is due at the end
abbrev pub IsWhole : Run → List Event → Type 0
IsWhole run h = NoneDue run h

-- every fragment is finished, no role is held and nothing is being collected
abbrev pub IsEnded : Run → List Event → Type 0
IsEnded run h = (h ≢ []) × ((f : ℕ) → f < length run.fragments → (is_finished h f ≡ true) × ((role : ℕ) → held h f role ≡ false) × (is_collecting h f ≡ false))
