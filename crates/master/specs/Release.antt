-- What a run gives up when all that is out, held or being collected is released.
use Rattle.std.specs.Prelude.{ℕ, ◌<◌, ◌≡◌, ◌≢◌, ⊤, false, List, [], ◌++◌, length}
use Rattle.std.specs.List.{AllByRecursion}
use Rattle.page_partition.specs.Scan.{out_of}
use Rattle.adjust_protocol.specs.Moves.{is_held}
use Rattle.adjust_protocol.specs.Release.{IsReleased, Releases}
use Rattle.history.specs.Boards.{rule_by}
use Rattle.history.specs.declared.event.Event.{Event}
use Rattle.history.specs.declared.event.Event.TheVariants as event
use Rattle.master.specs.Boards.{with_board}
use Rattle.master.specs.Kind.{Slotted, scan_of}
use Rattle.master.specs.Ledger.{Ledger, at, scans}

-- a settle of nothing, the divide that one causes, a leave, or the end of a collection
abbrev pub GivesUp : Event → Type 0
GivesUp (event.Settle f role count) = count ≡ 0
GivesUp (event.Divide f degree cut) = ⊤
GivesUp (event.Leave f role) = ⊤
GivesUp (event.Uncollect f) = ⊤
GivesUp (event.Begin d) = ⊥
GivesUp (event.Seat backend f role) = ⊥
GivesUp (event.Claim f role places) = ⊥
GivesUp (event.Collect backend f) = ⊥
GivesUp (event.Finish f d) = ⊥

-- a fragment gave something up: its board made such moves, each allowed where it comes; its outputs, its value and all else stay
pub record GaveUp (s s' : Slotted) : Type 0 where
  pub board : Releases (rule_by s.by_entries) (scan_of s) (scan_of s')
  pub rest : s' ≡ with_board s (scan_of s') s.board.outputs

-- one fragment gave something up, and these events were added
pub record GaveUpAt (f : ℕ) (old new : Ledger) : Type 0 where
  pub events : List Event
  pub log : new.log ≡ old.log ++ events
  pub only : AllByRecursion GivesUp events
  pub size : length new.slots ≡ length old.slots
  pub here : GaveUp (at old.slots f) (at new.slots f)
  pub others : (g : ℕ) → g ≢ f → at new.slots g ≡ at old.slots g

-- the same of all fragments
pub record AllGaveUp (old new : Ledger) : Type 0 where
  pub events : List Event
  pub log : new.log ≡ old.log ++ events
  pub only : AllByRecursion GivesUp events
  pub size : length new.slots ≡ length old.slots
  pub each : (f : ℕ) → f < length old.slots → GaveUp (at old.slots f) (at new.slots f)

-- the role has nothing out and is free
pub record IsFreed (slots : List Slotted) (f role : ℕ) : Type 0 where
  pub out : out_of (scans slots f).scan.marks role ≡ []
  pub held : is_held (scans slots f) role ≡ false

-- nothing is out, held, being collected or pending
abbrev pub AreReleased : List Slotted → Type 0
AreReleased slots = (f : ℕ) → f < length slots → IsReleased (scans slots f)
