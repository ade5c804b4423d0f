-- What a decision does to the fragments that it names.
use Rattle.std.specs.Prelude.{ℕ, ◌<◌, ◌≤◌, ◌-◌, ◌≡◌, ◌≢◌, true, false, Bool, ◌&&◌, ◌==◌, if◌then◌else◌, List, [], ◌∷◌, length, map, filter, slice_set, Option, Some, None, IfSome}
use Rattle.std.specs.List.{All, list_all}
use Rattle.rows.specs.declared.plain.Machine.{Machine}
use Rattle.rows.specs.declared.value.Value.{Value}
use Rattle.hash_join.specs.Table.{Table}
use Rattle.adjust_protocol.specs.Calls.{fresh}
use Rattle.adjust_protocol.specs.Moves.{IsDue, Makes, Move, Running}
use Rattle.adjust_protocol.specs.Moves as move
use Rattle.io_cpu_scheduler.specs.Decisions.{decision}
use Rattle.io_cpu_scheduler.specs.Limits.{IsLoad, IsMachine}
use Rattle.io_cpu_scheduler.specs.Sensible.{HasPart, IsSensible}
use Rattle.io_cpu_scheduler.specs.declared.load.Decision.{Decision}
use Rattle.io_cpu_scheduler.specs.declared.load.Load.{Load}
use Rattle.io_cpu_scheduler.specs.declared.load.Part.{Part}
use Rattle.history.specs.Boards.{rule_by}
use Rattle.history.specs.Projected.{earlier_of, given, part_for}
use Rattle.history.specs.declared.event.Event.{Event}
use Rattle.history.specs.declared.event.Event.TheVariants as event
use Rattle.master.specs.Boards.{collected_as, with_board}
use Rattle.master.specs.Kind.{Slotted, Stage, ended, is_ended, is_running, is_waiting, runs, scan_of, waiting}
use Rattle.master.specs.Ledger.{at}

-- ---- what runs and what is ready
abbrev pub running_in : List Slotted → List Load
running_in slots = map (λ (s : Slotted). s.load) (filter is_running slots)

-- it hasn't begun, and all that it reads is finished
abbrev pub is_ready : List Slotted → Slotted → Bool
is_ready slots s = is_waiting s && list_all (λ i. is_ended (at slots i)) s.inputs

abbrev pub ready_in : List Slotted → List Load
ready_in slots = map (λ (s : Slotted). s.load) (filter (is_ready slots) slots)

-- ---- a finished fragment
abbrev pub finished : Slotted → Table → Slotted
finished s v = record (with_board s (collected_as false (scan_of s)) s.board.outputs) { stage = ended v }

-- ---- a fragment that is given a degree
-- its board is as it was made
abbrev pub IsUnbegun : Slotted → Type 0
IsUnbegun s = (positions : ℕ) × (from : ℕ) × (room : ℕ) × (scan_of s ≡ fresh (rule_by s.by_entries) positions from room)

-- it begins with the degree
pub record Begins (s : Slotted) (degree : ℕ) (s' : Slotted) : Type 0 where
  pub begun : (positions from room : ℕ) → scan_of s ≡ fresh (rule_by s.by_entries) positions from room → scan_of s' ≡ fresh (rule_by s.by_entries) positions degree (room - 1)
  pub rest : s' ≡ record (with_board s (scan_of s') s.board.outputs) { stage = runs }

-- it is asked for the degree, and divided at once where a cut is told
abbrev pub given_moves : ℕ → Option ℕ → List Move
given_moves degree None = move.Ask degree ∷ []
given_moves degree (Some cut) = move.Ask degree ∷ move.Divide degree cut ∷ []

pub record Asks (s : Slotted) (degree : ℕ) (cut : Option ℕ) (s' : Slotted) : Type 0 where
  pub moves : Makes (rule_by s.by_entries) 64 (scan_of s) (given_moves degree cut) (scan_of s')
  pub calm : (IsDue (scan_of s) → ⊥) → IsDue (scan_of s') → ⊥
  pub rest : s' ≡ with_board s (scan_of s') s.board.outputs

abbrev pub GivesIn : Stage → Slotted → ℕ → Option ℕ → Slotted → Type 0
GivesIn waiting s degree cut s' = (cut ≡ None) × Begins s degree s'
GivesIn runs s degree cut s' = Asks s degree cut s'
GivesIn (ended v) s degree cut s' = (cut ≡ None) × (s' ≡ s)

-- a decision gives it the degree
abbrev pub GivesOne : Slotted → ℕ → Option ℕ → Slotted → Type 0
GivesOne s degree cut s' = GivesIn s.stage s degree cut s'

-- or gives it none
abbrev pub GivesSlot : Option ℕ → Option ℕ → Slotted → Slotted → Type 0
GivesSlot None cut s s' = (cut ≡ None) × (s' ≡ s)
GivesSlot (Some degree) cut s s' = GivesOne s degree cut s'

-- ---- the fragments that a decision names
-- a fragment can be given a degree
pub record CanGive (s : Slotted) : Type 0 where
  pub going : is_ended s ≡ false
  pub room : 0 < (scan_of s).scan.room
  pub unbegun : is_waiting s ≡ true → IsUnbegun s

pub record CanTake (slots : List Slotted) (p : Part) : Type 0 where
  pub inside : p.fragment < length slots
  pub low : 1 ≤ p.degree
  pub high : p.degree ≤ 64
  pub can : CanGive (at slots p.fragment)

-- the divide of a part's fragment
abbrev pub divide_of : Part → Option ℕ → Option Event
divide_of p None = None
divide_of p (Some cut) = Some (event.Divide p.fragment p.degree cut)

abbrev pub GivesPart : List Slotted → Option Part → Option Event → List Slotted → Type 0
GivesPart slots None divide slots' = (divide ≡ None) × (slots' ≡ slots)
GivesPart slots (Some p) divide slots' =
    (cut : Option ℕ) × (divide ≡ divide_of p cut) × (s' : Slotted) × GivesOne (at slots p.fragment) p.degree cut s' × (slots' ≡ slice_set slots p.fragment s')

-- two parts name two fragments, of which one doesn't run
pub record AreTwo (slots : List Slotted) (d : Decision) : Type 0 where
  pub apart : (p q : Part) → d.first ≡ Some p → d.second ≡ Some q → p.fragment ≢ q.fragment
  pub one : (p q : Part) → d.first ≡ Some p → d.second ≡ Some q → is_running (at slots p.fragment) ≡ true → is_running (at slots q.fragment) ≡ true → ⊥

-- the cut of the divide at a fragment
abbrev pub cut_for : Option Event → ℕ → Option ℕ
cut_for None f = None
cut_for (Some (event.Divide g degree cut)) f = if g == f then Some cut else None
cut_for (Some e) f = None

-- the divide is one to the degree that the decision gives to a fragment that runs
abbrev pub IsCut : List Slotted → Decision → Option Event → Type 0
IsCut slots d None = Unit {0}
IsCut slots d (Some e) =
    (g : ℕ) × (degree : ℕ) × (cut : ℕ) × (e ≡ event.Divide g degree cut) × (g < length slots) × (given d g ≡ Some degree) × (is_running (at slots g) ≡ true)

-- each fragment is given what the decision gives it
pub record AllGiven (slots : List Slotted) (d : Decision) (divide : Option Event) (slots' : List Slotted) : Type 0 where
  pub size : length slots' ≡ length slots
  pub each : (f : ℕ) → f < length slots → GivesSlot (given d f) (cut_for divide f) (at slots f) (at slots' f)
  pub cut : IsCut slots d divide

-- ---- a decision over the fragments
-- at most one runs, loads and machine are within their limits, and what a sensible decision names can be given
pub record CanDecide (mach : Machine) (slots : List Slotted) : Type 0 where
  pub one : length (running_in slots) ≤ 1
  pub loads : All IsLoad (running_in slots) × All IsLoad (ready_in slots)
  pub limits : IsMachine mach
  pub takes : (d : Decision) → IsSensible mach (running_in slots) (ready_in slots) d → IfSome d.first (CanTake slots) × IfSome d.second (CanTake slots) × AreTwo slots d

-- the decision of a machine
pub record IsDecided (mach : Machine) (slots : List Slotted) (d : Decision) : Type 0 where
  pub value : d ≡ decision mach (running_in slots) (ready_in slots)
  pub sensible : IsSensible mach (running_in slots) (ready_in slots) d
  pub goes_on : All (λ load. HasPart d load.fragment) (running_in slots)

-- which is given to all
pub record Decides (mach : Machine) (slots : List Slotted) (d : Decision) (divide : Option Event) (slots' : List Slotted) : Type 0 where
  pub decided : IsDecided mach slots d
  pub given : AllGiven slots d divide slots'
