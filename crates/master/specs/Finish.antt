-- What a finish does.
use Rattle.std.specs.Prelude.{ℕ, ◌≡◌, List, [], ◌∷◌, ◌++◌, slice_set, Option, Some, None}
use Rattle.hash_join.specs.Table.{Table}
use Rattle.io_cpu_scheduler.specs.declared.load.Decision.{Decision}
use Rattle.history.specs.declared.event.Event.{Event}
use Rattle.history.specs.declared.event.Event.TheVariants as event
use Rattle.master.specs.Gives.{AllGiven, finished}
use Rattle.master.specs.Kind.{Slotted}
use Rattle.master.specs.Ledger.{Ledger, at}

-- the fragments once one of them has its value
abbrev pub ended_at : List Slotted → ℕ → Table → List Slotted
ended_at slots g v = slice_set slots g (finished (at slots g) v)

-- a finish, and the divide that it causes, if any
abbrev pub finish_events : ℕ → Decision → Option Event → List Event
finish_events g d None = event.Finish g d ∷ []
finish_events g d (Some divide) = event.Finish g d ∷ divide ∷ []

-- the fragment has its value, and the decision is given to all
pub record Finishes (old new : Ledger) (g : ℕ) (v : Table) (d : Decision) : Type 0 where
  pub divide : Option Event
  pub log : new.log ≡ old.log ++ finish_events g d divide
  pub given : AllGiven (ended_at old.slots g v) d divide new.slots
