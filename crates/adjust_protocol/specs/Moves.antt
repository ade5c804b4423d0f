use Rattle.std.specs.Prelude.{ℕ, ◌-◌, ◌<◌, ◌≤◌, Bool, true, false, List, [], ◌∷◌, ◌==◌, if◌then◌else◌, ◌≡◌, ◌≢◌, ◌||◌, length, take, slice_set, slice_index_or, Option, Some, None, count_by, unwrap_or}
use Rattle.page_partition.specs.declared.table.Mark.{Mark}
use Rattle.page_partition.specs.declared.table.Mark.TheVariants.{Out}
use Rattle.page_partition.specs.Scan.{Scan, is_left, is_deposited, places, left_of, out_of, mark_first, given_back, IsIdle}
use Rattle.adjust_protocol.specs.Free.{free_in}

-- how a kind of scan is divided: the marks that a divide to a degree leaves, and its cut
pub record Rule : Type 0 where
  pub redivided : ℕ → List Mark → List Mark
  pub cut : List Mark → ℕ

-- a running fragment: its scan, which roles are held, the pending degree, and whether it is being collected
pub record Running : Type 0 where
  pub scan : Scan
  pub held : List Bool
  pub asked : Option ℕ
  pub collecting : Bool

-- one event at a running fragment. Ask is the end of another fragment that gives this one a degree
pub data Move : Type 0 where
  Seat : (role : ℕ) → Move
  Claim : (role : ℕ) (places : List ℕ) → Move
  Settle : (role count : ℕ) → Move
  Divide : (degree cut : ℕ) → Move
  Leave : (role : ℕ) → Move
  Collect : Move
  Uncollect : Move
  Ask : (degree : ℕ) → Move

abbrev pub is_full : List Mark → Bool
is_full ms = length (places is_deposited ms) == length ms

abbrev pub wanted : Running → ℕ
wanted s = unwrap_or s.asked s.scan.degree

abbrev pub holders : Running → ℕ
holders s = count_by (λ b. b) s.held

abbrev pub is_held : Running → ℕ → Bool
is_held s role = slice_index_or s.held role false

abbrev pub is_free : Running → ℕ → Bool
is_free s role = free_in s.scan.marks s.held s.asked role

-- a degree is pending and no batch is out
abbrev pub IsDue : Running → Type 0
IsDue s = (s.asked ≢ None) × IsIdle s.scan.marks

abbrev pub with_marks : Running → List Mark → Running
with_marks s ms = record s { scan = record s.scan { marks = ms } }

-- the pending degree after a degree is given
abbrev pub asked_for : Running → ℕ → Option ℕ
asked_for s degree = if is_full s.scan.marks || (degree == wanted s) then s.asked else Some degree

abbrev pub after : Rule → Running → Move → Running
after rule s (Seat role) = record s { held = slice_set s.held role true }
after rule s (Claim role ps) = with_marks s (mark_first (is_left role) (length ps) (Out role) s.scan.marks)
after rule s (Settle role count) =
    let ms = given_back role count s.scan.marks in
    record (with_marks s ms) { asked = if is_full ms then None else s.asked }
after rule s (Divide degree cut) = record s { scan = record { marks = rule.redivided degree s.scan.marks; degree = degree; room = s.scan.room - 1 }; asked = None }
after rule s (Leave role) = record s { held = slice_set s.held role false }
after rule s Collect = record s { collecting = true }
after rule s Uncollect = record s { collecting = false }
after rule s (Ask degree) = record s { asked = asked_for s degree }

-- where an event is allowed. `batch` is the most that one claim takes
abbrev pub IsLeastFree : Running → ℕ → Type 0
IsLeastFree s role = (role < 64) × (is_free s role ≡ true) × ((q : ℕ) → q < role → is_free s q ≡ false)

pub record MayClaim (batch : ℕ) (s : Running) (role : ℕ) (ps : List ℕ) : Type 0 where
  pub below : role < 64
  pub held : is_held s role ≡ true
  pub idle : out_of s.scan.marks role ≡ []
  pub calm : s.asked ≡ None
  pub some : 0 < length (left_of s.scan.marks role)
  pub first : ps ≡ take batch (left_of s.scan.marks role)

abbrev pub Allows : Rule → ℕ → Running → Move → Type 0
Allows rule batch s (Seat role) = (IsDue s → ⊥) × IsLeastFree s role × (holders s < wanted s)
Allows rule batch s (Claim role ps) = MayClaim batch s role ps
Allows rule batch s (Settle role count) = (role < 64) × (0 < length (out_of s.scan.marks role)) × (count ≤ length (out_of s.scan.marks role))
Allows rule batch s (Divide degree cut) = (s.asked ≡ Some degree) × IsIdle s.scan.marks × (cut ≡ rule.cut s.scan.marks)
Allows rule batch s (Leave role) = (role < 64) × (is_held s role ≡ true) × (out_of s.scan.marks role ≡ [])
Allows rule batch s Collect = (IsDue s → ⊥) × (is_full s.scan.marks ≡ true) × (s.collecting ≡ false)
Allows rule batch s Uncollect = (IsDue s → ⊥) × (s.collecting ≡ true)
Allows rule batch s (Ask degree) = (IsDue s → ⊥) × (1 ≤ degree) × (degree ≤ 64)

-- a run of events, each allowed where it comes
abbrev pub run : Rule → Running → List Move → Running
run rule s [] = s
run rule s (m ∷ moves) = run rule (after rule s m) moves

abbrev pub Legal : Rule → ℕ → Running → List Move → Type 0
Legal rule batch s [] = Unit {0}
Legal rule batch s (m ∷ moves) = Allows rule batch s m × Legal rule batch (after rule s m) moves

-- a call took these events
abbrev pub Makes : Rule → ℕ → Running → List Move → Running → Type 0
Makes rule batch s moves s' = Legal rule batch s moves × (s' ≡ run rule s moves)
