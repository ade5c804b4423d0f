-- What a history is told of its run.
use Rattle.std.specs.Prelude.{ℕ, Bool, false, List, [], slice_index_or}
use Rattle.rows.specs.declared.plain.Machine.{Machine}
use Rattle.rows.specs.declared.plain.Step.{Step}
use Rattle.std.specs.List.{AllByRecursion}
use Rattle.io_cpu_scheduler.specs.Limits.{IsMachine, IsStep}

-- a fragment in outline: how many positions it has, whether they are entries or else pages, which fragments it reads, and
-- its load
pub record Outline : Type 0 where
  pub positions : ℕ
  pub by_entries : Bool
  pub inputs : List ℕ
  pub pages : ℕ
  pub time : ℕ

-- a run: its fragments in order, its machine and the steps by which the machine changes
pub record Run : Type 0 where
  pub fragments : List Outline
  pub machine : Machine
  pub steps : List Step

-- for a number that no fragment has
abbrev pub no_outline : Outline
no_outline = record { positions = 0; by_entries = false; inputs = []; pages = 0; time = 1 }

abbrev pub outline : Run → ℕ → Outline
outline run f = slice_index_or run.fragments f no_outline

-- the machine and the steps are within the limits
pub record IsWithin (run : Run) : Type 0 where
  pub machine : IsMachine run.machine
  pub steps : AllByRecursion IsStep run.steps
