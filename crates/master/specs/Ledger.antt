-- A control: the history of a run and its fragments.
use Rattle.std.specs.Prelude.{ℕ, ◌<◌, ◌≤◌, ◌+◌, ◌*◌, Bool, true, false, not, List, [], ◌≡◌, ◌≢◌, length, reverse, slice_index_or, Option, Some, None, is_some, if◌then◌else◌, nat_lt}
use Rattle.std.specs.List.{list_all, sum_by}
use Rattle.std.proofs.Common.{zero, suc}
use Rattle.rows.specs.declared.plain.Machine.{Machine}
use Rattle.rows.specs.declared.plain.Step.{Step}
use Rattle.hash_join.specs.Table.{Table}
use Rattle.page_partition.specs.declared.table.Mark.{Mark}
use Rattle.page_partition.specs.Scan.{out_of}
use Rattle.io_cpu_scheduler.specs.declared.load.Decision.{Decision}
use Rattle.io_cpu_scheduler.specs.declared.load.Part.{Part}
use Rattle.io_cpu_scheduler.specs.Sensible.{HasPart}
use Rattle.adjust_protocol.specs.Moves.{IsDue, Running, holders}
use Rattle.history.specs.declared.event.Event.{Event}
use Rattle.history.specs.Allowed.{IsWhole}
use Rattle.history.specs.Boards.{Follows}
use Rattle.history.specs.Outline.{IsWithin, Run, outline}
use Rattle.history.specs.Projected.{begun, is_finished}
use Rattle.history.specs.Running.{AreOrdered}
use Rattle.history.specs.State.{finishes, load_of}
use Rattle.master.specs.Content.{HasContent}
use Rattle.master.specs.Lasts.{last_flags}
use Rattle.master.specs.Kind.{Slotted, is_ended, is_running, is_waiting, scan_of, waiting}
use Rattle.master.specs.Meaning.{Meaning, run_of}

-- the history, the earliest event first, and the fragments in order
pub record Ledger : Type 0 where
  pub log : List Event
  pub slots : List Slotted

-- for a number that no fragment has
abbrev pub no_slot : Slotted
no_slot = record {
  by_entries = false;
  inputs = [];
  load = record { fragment = 0; pages = 0; time = 1 };
  stage = waiting;
  board = record {
    running = record { scan = record { marks = []; degree = 0; room = 0 }; held = []; asked = None; collecting = false };
    outputs = [];
  };
}

abbrev pub at : List Slotted → ℕ → Slotted
at slots f = slice_index_or slots f no_slot

-- the scans of the fragments, by number
abbrev pub scans : List Slotted → ℕ → Running
scans slots f = scan_of (at slots f)

-- ---- a fragment beside the history
pub record IsSlotOf (run : Run) (h : List Event) (f : ℕ) (s : Slotted) : Type 0 where
  pub kind : s.by_entries ≡ (outline run f).by_entries
  pub inputs : s.inputs ≡ (outline run f).inputs
  pub load : s.load ≡ load_of run f
  pub has_begun : is_some (begun h f) ≡ not (is_waiting s)
  pub has_ended : is_finished h f ≡ is_ended s

-- the control of a run of this name: its history isn't empty, is legal and leaves nothing due, and its boards are what the
-- history says. What it keeps of outputs and values is of their fragments
pub record Fits (m : Meaning) (c : Ledger) : Type 0 where
  pub started : c.log ≢ []
  pub size : length c.slots ≡ length (run_of m).fragments
  pub each : (f : ℕ) → f < length c.slots → IsSlotOf (run_of m) (reverse c.log) f (at c.slots f)
  pub follows : Follows (run_of m) (reverse c.log) (scans c.slots)
  pub whole : IsWhole (run_of m) (reverse c.log)
  pub content : (f : ℕ) → f < length c.slots → HasContent m f (at c.slots f)

-- ---- the room that the history keeps
-- how many of the first roles have a batch out
unfoldable pub outs_below : ℕ → List Mark → ℕ
outs_below zero ms = 0
outs_below (suc r) ms = (if nat_lt 0 (length (out_of ms r)) then 1 else 0) + outs_below r ms

-- how many events may follow without memory: two for a batch out, a settle and a divide; one for a held role, its leave; two
-- for what is being collected, a finish and a divide
abbrev pub need : Slotted → ℕ
need s = 2 * outs_below 64 (scan_of s).scan.marks + holders (scan_of s) + 2 * (if (scan_of s).collecting then 1 else 0)

abbrev pub needs : List Slotted → ℕ
needs slots = sum_by need slots

-- ---- what is kept beside
-- how many fragments aren't finished
abbrev pub unended : List Slotted → ℕ
unended slots = sum_by (λ (s : Slotted). if is_ended s then 0 else 1) slots

-- all of these are finished
abbrev pub AreFed : List Slotted → List ℕ → Type 0
AreFed slots inputs = list_all (λ i. is_ended (at slots i)) inputs ≡ true

-- of n fragments k are finished: a board has room for a divide at each finish to come, for the one that is pending, and for
-- its begin
abbrev pub HasAsks : ℕ → ℕ → Slotted → Type 0
HasAsks n k s = n + (if is_some (scan_of s).asked then 1 else 0) + (if is_waiting s then 1 else 0) ≤ (scan_of s).scan.room + k

-- what a control keeps beside its history and its fragments: the machine and its steps, the last decision, how many
-- fragments are finished, how many events may need room, the room there is, the room of its lists of loads, which fragments
-- are the last of their statements, and the list for the answers with its room
pub record Tools : Type 0 where
  pub machine : Machine
  pub steps : List Step
  pub decision : Decision
  pub finishes : ℕ
  pub needed : ℕ
  pub spare : ℕ
  pub running : ℕ
  pub ready : ℕ
  pub lasts : List Bool
  pub answers : List Table
  pub answer_count : ℕ
  pub answer_room : ℕ

-- which fragments are the last of their statements, and an empty list with room for an answer of each fragment
abbrev pub HasAnswerRoom : Meaning → Tools → Type 0
HasAnswerRoom m t = (t.lasts ≡ last_flags m.fragments) × (t.answers ≡ []) × (t.answer_count ≡ 0) × (length m.fragments ≤ t.answer_room)

pub record IsKept (m : Meaning) (log : List Event) (slots : List Slotted) (t : Tools) : Type 0 where
  pub fits : Fits m (record { log = log; slots = slots })
  pub within : IsWithin (run_of m)
  pub ordered : AreOrdered (run_of m)
  pub small : length slots ≤ 1000
  pub calm : (f : ℕ) → f < length slots → IsDue (scans slots f) → ⊥
  pub asks : (f : ℕ) → f < length slots → HasAsks (length slots) t.finishes (at slots f)
  pub named : (f : ℕ) → f < length slots → is_running (at slots f) ≡ true → HasPart t.decision f
  pub fed : (f : ℕ) → f < length slots → is_running (at slots f) ≡ true → AreFed slots (at slots f).inputs
  pub in_order : (p q : Part) → t.decision.first ≡ Some p → t.decision.second ≡ Some q → p.fragment < q.fragment
  pub counted : needs slots ≤ t.needed
  pub kept : t.needed ≤ t.spare
  pub finished : t.finishes ≡ finishes (reverse log)
  pub unended : t.finishes + unended slots ≡ length slots
  pub lists : (length slots ≤ t.running) × (length slots ≤ t.ready)
  pub machine : t.machine ≡ m.machine
  pub steps : t.steps ≡ m.steps
  pub answers : HasAnswerRoom m t
