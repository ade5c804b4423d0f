-- A history as it is printed, the earliest event first.
use Rattle.std.specs.Prelude.{List, ◌∷◌, ◌++◌, ◌≡◌, reverse}
use Rattle.history.specs.declared.event.Event.{Event}
use Rattle.history.specs.Outline.{Run}
use Rattle.history.specs.Allowed.{Permits}

-- each event is allowed after the events before it
abbrev pub IsLegalLog : Run → List Event → Type 0
IsLegalLog run log = (before later : List Event) (e : Event) → log ≡ before ++ e ∷ later → Permits run (reverse before) e
