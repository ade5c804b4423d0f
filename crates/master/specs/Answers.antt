-- What the next thing to do is.
use Rattle.std.specs.Prelude.{ℕ, ◌<◌, ◌≡◌, true, false, List, [], ◌∷◌, ◌++◌, length, reverse, Some, None, map, Option}
use Rattle.rows.specs.declared.value.Value.{Value}
use Rattle.page_partition.specs.Scan.{left_of}
use Rattle.adjust_protocol.specs.Moves.{MayClaim, Running}
use Rattle.adjust_protocol.specs.Moves as move
use Rattle.adjust_protocol.specs.declared.answers.Claimed.{Claimed}
use Rattle.adjust_protocol.specs.declared.answers.Claimed.TheVariants as claimed
use Rattle.history.specs.Allowed.{Permits}
use Rattle.history.specs.Outline.{Run}
use Rattle.history.specs.Projected.{is_finished}
use Rattle.history.specs.declared.event.Event.{Event}
use Rattle.history.specs.declared.event.Event.TheVariants as event
use Rattle.master.specs.declared.next.Next.{Next}
use Rattle.master.specs.declared.next.Next.TheVariants as next
use Rattle.hash_join.specs.Table.{Table}
use Rattle.master.specs.Kind.{value_in}
use Rattle.master.specs.Calls.{moved_at}
use Rattle.master.specs.Content.{AreParts}
use Rattle.master.specs.Ledger.{Ledger, at}
use Rattle.master.specs.Meaning.{Meaning, run_of}

-- a claim gives the first positions that are left, as many as the machine's batch; `Hold` comes exactly where a degree is
-- pending, and `Leave` where none is and nothing is left
abbrev pub Claims : ℕ → Running → ℕ → Claimed → Type 0
Claims batch s role (claimed.Batch ps) = MayClaim batch s role ps
Claims batch s role claimed.Hold = (n : ℕ) × (s.asked ≡ Some n)
Claims batch s role claimed.Leave = (s.asked ≡ None) × (left_of s.scan.marks role ≡ [])

-- the events that an answer stands for
abbrev pub next_events : ℕ → Next → List Event
next_events backend (next.Job f role inputs) = event.Seat backend f role ∷ []
next_events backend (next.Collect f parts) = event.Collect backend f ∷ []
next_events backend next.Rest = []
next_events backend next.Stop = []

-- every fragment is finished
abbrev pub AllFinished : Run → List Event → Type 0
AllFinished run h = (f : ℕ) → f < length run.fragments → is_finished h f ≡ true

-- a fragment isn't finished, and neither a collect nor a seat is allowed
pub record IsRest (run : Run) (h : List Event) : Type 0 where
  pub unfinished : (f : ℕ) × (f < length run.fragments) × (is_finished h f ≡ false)
  pub no_collect : (backend f : ℕ) → Permits run h (event.Collect backend f) → ⊥
  pub no_seat : (backend f role : ℕ) → Permits run h (event.Seat backend f role) → ⊥

-- a role of a fragment is seated: its inputs are the finished values of the fragments that it reads, in order
pub record IsJob (old new : Ledger) (f role : ℕ) (found : List Table) : Type 0 where
  pub inside : f < length old.slots
  pub below : role < 64
  pub inputs : map Some found ≡ map (λ i. value_in (at old.slots i).stage) (at old.slots f).inputs
  pub slots : new.slots ≡ moved_at old.slots f (move.Seat role ∷ [])

-- a fragment is collected: its parts are the outputs of all its positions, in order
pub record IsCollect (m : Meaning) (old new : Ledger) (f : ℕ) (found : List (List (List Value))) : Type 0 where
  pub inside : f < length old.slots
  pub slots : new.slots ≡ moved_at old.slots f (move.Collect ∷ [])
  pub outputs : map Some found ≡ (at old.slots f).board.outputs
  pub parts : AreParts m f found

abbrev pub NextAnswer : Meaning → Ledger → Ledger → Next → Type 0
NextAnswer m old new (next.Job f role inputs) = IsJob old new f role (map (λ x. x.value) inputs)
NextAnswer m old new (next.Collect f parts) = IsCollect m old new f parts
NextAnswer m old new next.Rest = (new ≡ old) × IsRest (run_of m) (reverse old.log)
NextAnswer m old new next.Stop = (new ≡ old) × AllFinished (run_of m) (reverse old.log)
