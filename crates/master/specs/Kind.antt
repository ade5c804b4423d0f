-- How a fragment of a run stands.
use Rattle.std.specs.Prelude.{ℕ, List, Bool, true, false, Option, Some, None}
use Rattle.rows.specs.declared.value.Value.{Value}
use Rattle.hash_join.specs.Table.{Table}
use Rattle.io_cpu_scheduler.specs.declared.load.Load.{Load}
use Rattle.adjust_protocol.specs.Moves.{Running}
use Rattle.adjust_protocol.specs.Full.{Kept}
use Rattle.master.specs.declared.slot.AnyBoard.{AnyBoard}
use Rattle.master.specs.declared.slot.AnyBoard.TheVariants.{Pages, Entries}
use Rattle.master.specs.declared.slot.Phase.{Phase}
use Rattle.master.specs.declared.slot.Phase.TheVariants as phase

-- it hasn't begun, it runs, or it is finished with a value
pub data Stage : Type 0 where
  waiting : Stage
  runs : Stage
  ended : Table → Stage

-- a fragment: whether its positions are entries, which fragments it reads, its load, how far it has come, and its board
pub record Slotted : Type 0 where
  pub by_entries : Bool
  pub inputs : List ℕ
  pub load : Load
  pub stage : Stage
  pub board : Kept (List (List Value))

abbrev pub runs_in : Stage → Bool
runs_in waiting = false
runs_in runs = true
runs_in (ended v) = false

abbrev pub waits_in : Stage → Bool
waits_in waiting = true
waits_in runs = false
waits_in (ended v) = false

abbrev pub ended_in : Stage → Bool
ended_in waiting = false
ended_in runs = false
ended_in (ended v) = true

abbrev pub value_in : Stage → Option Table
value_in waiting = None
value_in runs = None
value_in (ended v) = Some v

abbrev pub is_running : Slotted → Bool
is_running s = runs_in s.stage

abbrev pub is_waiting : Slotted → Bool
is_waiting s = waits_in s.stage

abbrev pub is_ended : Slotted → Bool
is_ended s = ended_in s.stage

-- the scan of a fragment with its roles
abbrev pub scan_of : Slotted → Running
scan_of s = s.board.running

-- ---- as it stands in memory
abbrev pub by_entries_in : AnyBoard → Bool
by_entries_in (Pages b) = false
by_entries_in (Entries b) = true

abbrev pub board_in : AnyBoard → Kept (List (List Value))
board_in (Pages b) = b
board_in (Entries b) = b

abbrev pub stage_in : Phase → Stage
stage_in phase.Waiting = waiting
stage_in phase.Runs = runs
stage_in (phase.Ended v) = ended v.value

abbrev pub slotted : AnyBoard → List ℕ → Load → Phase → Slotted
slotted board inputs load phase = record {
  by_entries = by_entries_in board;
  inputs = inputs;
  load = load;
  stage = stage_in phase;
  board = board_in board;
}
