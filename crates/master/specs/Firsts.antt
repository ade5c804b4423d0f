-- Which of the parts of a decision names a fragment with a property.
use Rattle.std.specs.Prelude.{ℕ, ◌<◌, ◌≡◌, ◌⊎◌, true, List, length, Option, Some, None}
use Rattle.io_cpu_scheduler.specs.declared.load.Decision.{Decision}
use Rattle.io_cpu_scheduler.specs.declared.load.Part.{Part}
use Rattle.io_cpu_scheduler.specs.Sensible.{IsOf}
use Rattle.master.specs.Boards.{HasSeat, waits}
use Rattle.master.specs.Kind.{Slotted}
use Rattle.master.specs.Ledger.{at}

-- the part's fragment has the property
abbrev pub PartHas : (Slotted → Type 0) → List Slotted → Option Part → Option ℕ → Type 0
PartHas Has slots part None = (f : ℕ) → f < length slots → IsOf part f → Has (at slots f) → ⊥
PartHas Has slots part (Some f) = (f < length slots) × IsOf part f × Has (at slots f)

-- the fragment of the first part that has it, or else that of the second
abbrev pub FirstHas : (Slotted → Type 0) → List Slotted → Decision → Option ℕ → Type 0
FirstHas Has slots d None = PartHas Has slots d.first None × PartHas Has slots d.second None
FirstHas Has slots d (Some f) =
    PartHas Has slots d.first (Some f) ⊎ (PartHas Has slots d.first None × PartHas Has slots d.second (Some f))

abbrev pub Waits : Slotted → Type 0
Waits s = waits s ≡ true
