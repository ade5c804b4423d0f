-- What a fragment's board shows, and how it changes.
use Rattle.std.specs.Prelude.{ℕ, ◌<◌, ◌-◌, true, false, ◌≡◌, ◌⊎◌, Bool, ◌&&◌, not, List, Option, Some, None, map}
use Rattle.rows.specs.declared.value.Value.{Value}
use Rattle.adjust_protocol.specs.Full.{Kept}
use Rattle.adjust_protocol.specs.Answers.{AskAnswer, ask_moves}
use Rattle.adjust_protocol.specs.Calls.{fresh}
use Rattle.adjust_protocol.specs.declared.answers.Asked.{Asked}
use Rattle.adjust_protocol.specs.declared.answers.Asked.TheVariants as asked
use Rattle.history.specs.Boards.{rule_by}
use Rattle.adjust_protocol.specs.Moves.{Makes, Running, holders, is_free, is_full, wanted}
use Rattle.master.specs.declared.slot.AnyBoard.{AnyBoard}
use Rattle.master.specs.Kind.{Slotted, board_in, by_entries_in, is_running, scan_of}

-- a fragment whose board changed
abbrev pub with_board : Slotted → Running → List (Option (List (List Value))) → Slotted
with_board s running outputs = record s { board = record { running = running; outputs = outputs } }

abbrev pub collected_as : Bool → Running → Running
collected_as b s = record s { collecting = b }

-- it runs, its scan is done, and nobody collects it
abbrev pub waits : Slotted → Bool
waits s = is_running s && (is_full (scan_of s).scan.marks && not (scan_of s).collecting)

-- it runs, has a free role, and has fewer held ones than it wants
pub record HasSeat (s : Slotted) : Type 0 where
  pub running : is_running s ≡ true
  pub few : holders (scan_of s) < wanted (scan_of s)
  pub free : (role : ℕ) × (role < 64) × (is_free (scan_of s) role ≡ true)

-- a board is collected: its outputs are given in order of position; none are where a position isn't deposited or somebody
-- collects them already
abbrev pub CollectsKept : Kept (List (List Value)) → Kept (List (List Value)) → Option (List (List (List Value))) → Type 0
CollectsKept b b' None = (b' ≡ b) × ((is_full b.running.scan.marks ≡ false) ⊎ (b.running.collecting ≡ true))
CollectsKept b b' (Some parts) =
    (is_full b.running.scan.marks ≡ true) × (b.running.collecting ≡ false)
    × (b' ≡ record { running = collected_as true b.running; outputs = b.outputs }) × (map Some parts ≡ b.outputs)

pub record CollectsBoard (b b' : AnyBoard) (found : Option (List (List (List Value)))) : Type 0 where
  pub kind : by_entries_in b' ≡ by_entries_in b
  pub board : CollectsKept (board_in b) (board_in b') found

pub record Collects (s s' : Slotted) (found : Option (List (List (List Value)))) : Type 0 where
  pub rest : s' ≡ with_board s s'.board.running s'.board.outputs
  pub board : CollectsKept s.board s'.board found

-- ---- a board of either division
-- it is as it was made
pub record IsUnbegunBoard (b : AnyBoard) : Type 0 where
  pub positions : ℕ
  pub from : ℕ
  pub room : ℕ
  pub is : (board_in b).running ≡ fresh (rule_by (by_entries_in b)) positions from room

pub record BeginsBoard (b : AnyBoard) (degree : ℕ) (b' : AnyBoard) : Type 0 where
  pub begun : (positions from room : ℕ) → (board_in b).running ≡ fresh (rule_by (by_entries_in b)) positions from room → (board_in b').running ≡ fresh (rule_by (by_entries_in b)) positions degree (room - 1)
  pub kind : by_entries_in b' ≡ by_entries_in b
  pub outputs : (board_in b').outputs ≡ (board_in b).outputs

pub record AsksBoard (b : AnyBoard) (degree : ℕ) (b' : AnyBoard) (answer : Asked) : Type 0 where
  pub moves : Makes (rule_by (by_entries_in b)) 64 (board_in b).running (ask_moves degree answer) (board_in b').running
  pub answers : AskAnswer (board_in b).running (board_in b').running degree answer
  pub kind : by_entries_in b' ≡ by_entries_in b
  pub outputs : (board_in b').outputs ≡ (board_in b).outputs

-- the cut that an answer tells
abbrev pub cut_in : Asked → Option ℕ
cut_in asked.Pending = None
cut_in (asked.Cut k) = Some k
cut_in asked.NoChange = None
cut_in asked.AlreadyFinished = None
