-- What a control finds to do next is what its history allows.
use Rattle.std.proofs.Common.{◌≡◌, ◌≢◌, ℕ, zero, suc, ◌+◌, ◌<◌, ◌≤◌, ◌⊎◌, ◌&&◌, not, Bool, true, false, cond, List, [], ◌∷◌, ◌++◌, length, map, reverse, set, get_or, refl, ap, sym, ◌∙◌, subst, inl, inr, arith, Option, Some, None, is_some}
use Rattle.std.specs.List.{list_all, sum_by}
use Rattle.hash_join.specs.Table.{Table}
use Rattle.std.proofs.lemmas.Bool.{and_parts, cases_Bool, true≢false}
use Rattle.std.proofs.lemmas.List.{get_or_past, reverse-append}
use Rattle.std.proofs.lemmas.List.Sums.{sum_by-cons}
use Rattle.rows.specs.declared.value.Value.{Value}
use Rattle.adjust_protocol.specs.Full.{Kept}
use Rattle.adjust_protocol.specs.Moves.{Makes, Running, holders, is_free, is_full, wanted}
use Rattle.adjust_protocol.specs.Moves as move
use Rattle.io_cpu_scheduler.specs.declared.load.Decision.{Decision}
use Rattle.io_cpu_scheduler.specs.declared.load.Part.{Part}
use Rattle.io_cpu_scheduler.specs.Sensible.{HasPart, IsOf}
use Rattle.history.specs.Allowed.{IsLowest, NoneOpen, Permits}
use Rattle.history.specs.Boards.{rule_by}
use Rattle.history.specs.declared.event.Event.{Event}
use Rattle.history.specs.declared.event.Event.TheVariants as event
use Rattle.history.specs.Outline.{Run}
use Rattle.history.specs.Projected.{begun, is_finished, runs}
use Rattle.history.specs.State.{IsOpen, MaySeat, is_collecting}
use Rattle.history.specs.State.{is_full as is_full_after}
use Rattle.history.proofs.Follows.{follows_collect, follows_seat, open_of, seat_of}
use Rattle.master.specs.Answers.{AllFinished, IsCollect, IsJob, IsRest}
use Rattle.master.specs.Boards.{Collects, CollectsKept, HasSeat, collected_as, waits, with_board}
use Rattle.master.specs.Calls.{moved}
use Rattle.master.specs.Firsts.{FirstHas, PartHas, Waits}
use Rattle.master.specs.Kind.{Slotted, Stage, ended, is_ended, is_running, is_waiting, runs_in, scan_of, value_in, waiting}
use Rattle.master.specs.Kind as kind
use Rattle.master.specs.Ledger.{AreFed, IsKept, Ledger, Tools, at, no_slot, scans, unended}
use Rattle.master.specs.Meaning.{Meaning, run_of}
use Rattle.master.proofs.Contents.{content_parts, content_same}
use Rattle.master.proofs.Kept.{as_moved, by_run, changed_set, kept_board, looked, within_run}
use Rattle.master.proofs.Needs.{held_more}

-- ---- a fragment runs where its history says so
stage_runs : (s : Slotted) (st : Stage) → s.stage ≡ st → not (is_waiting s) && not (is_ended s) ≡ is_running s
stage_runs s kind.waiting e = simp e
stage_runs s kind.runs e = simp e
stage_runs s (kind.ended v) e = simp e

pub runs_is : (m : Meaning) (log : List Event) (slots : List Slotted) (t : Tools) (f : ℕ) → IsKept m log slots t → f < length slots → runs (reverse log) f ≡ is_running (at slots f)
runs_is m log slots t f k lt =
    let of = k.fits.each f lt in
    ap (λ b. b && not (is_finished (reverse log) f)) of.has_begun ∙ ap (λ b. not (is_waiting (at slots f)) && not b) of.has_ended ∙ stage_runs (at slots f) (at slots f).stage refl

some_of : (o : Option ℕ) (b : Bool) → is_some o && b ≡ true → (d : ℕ) × (o ≡ Some d)
some_of None b e = absurd (cc)
some_of (Some d) b e = (d, refl)

-- the degree at which a fragment that runs began
pub begun_at : (m : Meaning) (log : List Event) (slots : List Slotted) (t : Tools) (f : ℕ) → IsKept m log slots t → f < length slots → is_running (at slots f) ≡ true → (d : ℕ) × (begun (reverse log) f ≡ Some d)
begun_at m log slots t f k lt e = some_of (begun (reverse log) f) (not (is_finished (reverse log) f)) (runs_is m log slots t f k lt ∙ e)

not_false : (b : Bool) → not b ≡ true → b ≡ false
not_false true e = absurd (cc)
not_false false e = refl

-- ---- what waits to be collected is open, and what has a seat may be seated
pub to_open : (m : Meaning) (log : List Event) (slots : List Slotted) (t : Tools) (f : ℕ) → IsKept m log slots t → f < length slots → Waits (at slots f) → IsOpen (run_of m) (reverse log) f
to_open m log slots t f k lt w =
    let one = and_parts (is_running (at slots f)) (is_full (scans slots f).scan.marks && not (scans slots f).collecting) w in
    let two = and_parts (is_full (scans slots f).scan.marks) (not (scans slots f).collecting) one.1 in
    let d = begun_at m log slots t f k lt one.0 in
    let told = open_of (run_of m) (reverse log) (scans slots) f d.0 k.fits.follows (within_run m log slots t f k lt) d.1 in
    (runs_is m log slots t f k lt ∙ one.0, told.0 ∙ two.0, told.1 ∙ not_false (scans slots f).collecting two.1)

pub from_open : (m : Meaning) (log : List Event) (slots : List Slotted) (t : Tools) (f : ℕ) → IsKept m log slots t → f < length slots → IsOpen (run_of m) (reverse log) f → Waits (at slots f)
from_open m log slots t f k lt w =
    let running = sym (runs_is m log slots t f k lt) ∙ w.0 in
    let d = begun_at m log slots t f k lt running in
    let told = open_of (run_of m) (reverse log) (scans slots) f d.0 k.fits.follows (within_run m log slots t f k lt) d.1 in
    let full = sym told.0 ∙ w.1 in
    let alone = sym told.1 ∙ w.2 in
    simp (running, full, alone)

pub to_seat : (m : Meaning) (log : List Event) (slots : List Slotted) (t : Tools) (f : ℕ) → IsKept m log slots t → f < length slots → HasSeat (at slots f) → MaySeat (run_of m) (reverse log) f
to_seat m log slots t f k lt w =
    let d = begun_at m log slots t f k lt w.running in
    let told = seat_of (run_of m) (reverse log) (scans slots) f d.0 k.fits.follows (within_run m log slots t f k lt) d.1 in (
      runs_is m log slots t f k lt ∙ w.running,
      (w.free.0, w.free.1, told.0 w.free.0 w.free.1 ∙ w.free.2),
      (let few = w.few in let a = told.1 in let b = told.2 in omega arith),
    )

pub from_seat : (m : Meaning) (log : List Event) (slots : List Slotted) (t : Tools) (f : ℕ) → IsKept m log slots t → f < length slots → MaySeat (run_of m) (reverse log) f → HasSeat (at slots f)
from_seat m log slots t f k lt w =
    let running = sym (runs_is m log slots t f k lt) ∙ w.0 in
    let d = begun_at m log slots t f k lt running in
    let told = seat_of (run_of m) (reverse log) (scans slots) f d.0 k.fits.follows (within_run m log slots t f k lt) d.1 in
    record {
      running = running;
      few = (let few = w.2 in let a = told.1 in let b = told.2 in omega arith);
      free = (w.1.0, w.1.1, sym (told.0 w.1.0 w.1.1) ∙ w.1.2);
    }

-- ---- the first part that has a property is the lowest fragment that has it
of_some : (o : Option Part) (f : ℕ) → IsOf o f → (p : Part) × (o ≡ Some p) × (p.fragment ≡ f)
of_some None f is = absurd is
of_some (Some p) f is = (p, refl, is)

pub of_same : (o : Option Part) (f g : ℕ) → IsOf o f → IsOf o g → f ≡ g
of_same None f g a b = absurd a
of_same (Some p) f g a b = sym a ∙ b

of_order : (d : Decision) (f g : ℕ) → ((p q : Part) → d.first ≡ Some p → d.second ≡ Some q → p.fragment < q.fragment) → IsOf d.first f → IsOf d.second g → f < g
of_order d f g order a b =
    let p = of_some d.first f a in
    let q = of_some d.second g b in
    let lt = order p.0 q.0 p.1 q.1 in
    let x = p.2 in let y = q.2 in
    omega arith

pub first_lowest : (Has : Slotted → Type 0) (m : Meaning) (log : List Event) (slots : List Slotted) (t : Tools) (f : ℕ) → IsKept m log slots t → ((s : Slotted) → Has s → is_running s ≡ true) → FirstHas Has slots t.decision (Some f)
    → (f < length slots) × Has (at slots f) × ((g : ℕ) → g < f → Has (at slots g) → ⊥)
first_lowest Has m log slots t f k running found = elim found [
  | inl one ↦ (
    one.0,
    one.2,
    λ g lt has.
        let below : g < length slots = (let b = one.0 in omega arith) in
        elim (k.named g below (running (at slots g) has)) [
          | inl a ↦ let e = of_same t.decision.first g f a one.1 in absurd (omega arith)
          | inr b ↦ let o = of_order t.decision f g k.in_order one.1 b in absurd (omega arith)
        ],
  )
  | inr two ↦ (
    two.1.0,
    two.1.2,
    λ g lt has.
        let below : g < length slots = (let b = two.1.0 in omega arith) in
        elim (k.named g below (running (at slots g) has)) [
          | inl a ↦ two.0 g below a has
          | inr b ↦ let e = of_same t.decision.second g f b two.1.1 in absurd (omega arith)
        ],
  )
]

pub first_none : (Has : Slotted → Type 0) (m : Meaning) (log : List Event) (slots : List Slotted) (t : Tools) → IsKept m log slots t → ((s : Slotted) → Has s → is_running s ≡ true) → FirstHas Has slots t.decision None
    → (g : ℕ) → g < length slots → Has (at slots g) → ⊥
first_none Has m log slots t k running found g lt has = elim (k.named g lt (running (at slots g) has)) [
  | inl a ↦ found.0 g lt a has
  | inr b ↦ found.1 g lt b has
]

waits_run : (s : Slotted) → Waits s → is_running s ≡ true
waits_run s w = (and_parts (is_running s) (is_full (scan_of s).scan.marks && not (scan_of s).collecting) w).0

seat_run : (s : Slotted) → HasSeat s → is_running s ≡ true
seat_run s w = w.running

-- what is found waiting is the lowest that waits to be collected
pub lowest_open : (m : Meaning) (log : List Event) (slots : List Slotted) (t : Tools) (f : ℕ) → IsKept m log slots t → FirstHas Waits slots t.decision (Some f) → IsLowest (run_of m) (IsOpen (run_of m) (reverse log)) f
lowest_open m log slots t f k found =
    let low = first_lowest Waits m log slots t f k waits_run found in
    (within_run m log slots t f k low.0, to_open m log slots t f k low.0 low.1, λ g lt open'. low.2 g lt (from_open m log slots t g k (let b = low.0 in omega arith) open'))

pub lowest_seat : (m : Meaning) (log : List Event) (slots : List Slotted) (t : Tools) (f : ℕ) → IsKept m log slots t → FirstHas HasSeat slots t.decision (Some f) → IsLowest (run_of m) (MaySeat (run_of m) (reverse log)) f
lowest_seat m log slots t f k found =
    let low = first_lowest HasSeat m log slots t f k seat_run found in
    (within_run m log slots t f k low.0, to_seat m log slots t f k low.0 low.1, λ g lt may. low.2 g lt (from_seat m log slots t g k (let b = low.0 in omega arith) may))

pub none_open : (m : Meaning) (log : List Event) (slots : List Slotted) (t : Tools) → IsKept m log slots t → FirstHas Waits slots t.decision None → NoneOpen (run_of m) (reverse log)
none_open m log slots t k found g lt open' = let within : g < length slots = (let e = k.fits.size in omega arith) in first_none Waits m log slots t k waits_run found g within (from_open m log slots t g k within open')

none_seat : (m : Meaning) (log : List Event) (slots : List Slotted) (t : Tools) → IsKept m log slots t → FirstHas HasSeat slots t.decision None → (g : ℕ) → g < length (run_of m).fragments → MaySeat (run_of m) (reverse log) g → ⊥
none_seat m log slots t k found g lt may = let within : g < length slots = (let e = k.fits.size in omega arith) in first_none HasSeat m log slots t k seat_run found g within (from_seat m log slots t g k within may)

-- ---- a count of those that aren't finished
pub none_unended : (slots : List Slotted) → unended slots ≡ 0 → (f : ℕ) → f < length slots → is_ended (at slots f) ≡ true
none_unended [] e f lt = absurd (omega arith)
none_unended (s ∷ slots) e f lt = elim (cases_Bool (is_ended s)) [
  | inl y ↦ here f lt y (none_unended slots (let c = sum_by-cons (λ (x : Slotted). cond {A = ℕ} (is_ended x) 0 1) s slots in omega arith))
  | inr z ↦ absurd (let c = sum_by-cons (λ (x : Slotted). cond {A = ℕ} (is_ended x) 0 1) s slots in let one = ap (λ b. cond {A = ℕ} b 0 1) z in omega arith)
]
  where
    here : (f : ℕ) → f < length (s ∷ slots) → is_ended s ≡ true → ((g : ℕ) → g < length slots → is_ended (at slots g) ≡ true) → is_ended (at (s ∷ slots) f) ≡ true
    here zero lt y rest = y
    here (suc g) lt y rest = rest g (omega arith)

pub some_unended : (slots : List Slotted) → 0 < unended slots → (f : ℕ) × (f < length slots) × (is_ended (at slots f) ≡ false)
some_unended [] e = absurd (omega arith)
some_unended (s ∷ slots) e = elim (cases_Bool (is_ended s)) [
  | inl y ↦
      let rest = some_unended slots (let c = sum_by-cons (λ (x : Slotted). cond {A = ℕ} (is_ended x) 0 1) s slots in let none = ap (λ b. cond {A = ℕ} b 0 1) y in omega arith) in
      (suc rest.0, (let l = rest.1 in omega arith), rest.2)
  | inr z ↦ (0, omega arith, z)
]

pub all_finished : (m : Meaning) (log : List Event) (slots : List Slotted) (t : Tools) → IsKept m log slots t → t.finishes ≡ length slots → AllFinished (run_of m) (reverse log)
all_finished m log slots t k e f lt =
    let within : f < length slots = (let s = k.fits.size in omega arith) in
    let none : unended slots ≡ 0 = (let u = k.unended in omega arith) in
    (k.fits.each f within).has_ended ∙ none_unended slots none f within

pub is_rest : (m : Meaning) (log : List Event) (slots : List Slotted) (t : Tools) → IsKept m log slots t → FirstHas Waits slots t.decision None → FirstHas HasSeat slots t.decision None → (t.finishes ≡ length slots → ⊥) → IsRest (run_of m) (reverse log)
is_rest m log slots t k no_wait no_seats more =
    let some : 0 < unended slots = (let u = k.unended in omega arith) in
    let f = some_unended slots some in
    record {
      unfinished = (f.0, within_run m log slots t f.0 k f.1, (k.fits.each f.0 f.1).has_ended ∙ f.2);
      no_collect = λ backend g may. none_open m log slots t k no_wait g may.1.0 may.1.1;
      no_seat = λ backend g role may. none_seat m log slots t k no_seats g may.2.0 may.2.1;
    }

-- ---- a collect and a seat
pub kept_collect : (m : Meaning) (log later : List Event) (slots : List Slotted) (t : Tools) (backend g needed spare : ℕ) (s s' : Slotted) → IsKept m log slots t → IsLowest (run_of m) (IsOpen (run_of m) (reverse log)) g → s ≡ get_or slots g s
    → s' ≡ with_board s (collected_as true (scan_of s)) s.board.outputs → later ≡ log ++ event.Collect backend g ∷ [] → t.needed + 2 ≤ needed → needed ≤ spare
    → IsKept m later (set slots g s') (record t { needed = needed; spare = spare })
kept_collect m log later slots t backend g needed spare s s' k low is rest items change room =
    let lt : g < length slots = (let a = low.0 in let e = k.fits.size in omega arith) in
    let same = looked slots g s lt is in
    let z = collected_as true (scans slots g) in
    let new = with_board (at slots g) z (at slots g).board.outputs in
    let waiting' = from_open m log slots t g k lt low.1 in
    let one = and_parts (is_running (at slots g)) (is_full (scans slots g).scan.marks && not (scans slots g).collecting) waiting' in
    let two = and_parts (is_full (scans slots g).scan.marks) (not (scans slots g).collecting) one.1 in
    let alone = not_false (scans slots g).collecting two.1 in
    let d = begun_at m log slots t g k lt one.0 in
    let made : Makes (rule_by (at slots g).by_entries) (run_of m).machine.batch (scans slots g) (move.Collect ∷ []) z = (((k.calm g lt, two.0, alone), tt), refl) in
    let there : s' ≡ new = rest ∙ ap (λ (x : Slotted). with_board x (collected_as true (scan_of x)) x.board.outputs) same in
    let less = ap (λ (b : Bool). cond {A = ℕ} b 1 0) alone in
    subst (λ (x : Slotted). IsKept m later (set slots g x) (record t { needed = needed; spare = spare })) (sym there)
    (kept_board m log later (event.Collect backend g ∷ reverse log) slots t g needed spare z (at slots g).board.outputs k lt (content_same m g (at slots g) z (k.fits.content g lt)) (ap reverse items ∙ reverse-append log (event.Collect backend g ∷ []))
    (record { begun_as = λ f. refl; finished_as = λ f. refl; finishes_as = refl; some = λ e. absurd (cc) }) (k.calm g lt) (k.asks g lt)
    (follows_collect (run_of m) (reverse log) (scans slots) (scans (set slots g new)) backend g d.0 z k.fits.follows k.fits.whole low d.1 (by_run m log slots t g (run_of m).machine.batch (move.Collect ∷ []) z k lt made) (changed_set slots g new lt))
    (omega arith) room)

pub kept_seat : (m : Meaning) (log later : List Event) (slots : List Slotted) (t : Tools) (backend g role needed spare : ℕ) (s s' : Slotted) → IsKept m log slots t → NoneOpen (run_of m) (reverse log) → IsLowest (run_of m) (MaySeat (run_of m) (reverse log)) g → s ≡ get_or slots g s
    → Makes (rule_by s.by_entries) 64 (scan_of s) (move.Seat role ∷ []) (scan_of s') → s' ≡ with_board s (scan_of s') s.board.outputs → later ≡ log ++ event.Seat backend g role ∷ [] → t.needed + 1 ≤ needed → needed ≤ spare
    → IsKept m later (set slots g s') (record t { needed = needed; spare = spare })
kept_seat m log later slots t backend g role needed spare s s' k none low is made rest items change room =
    let lt : g < length slots = (let a = low.0 in let e = k.fits.size in omega arith) in
    let step = as_moved 64 (move.Seat role ∷ []) slots g s s' lt is made rest in
    let new = moved (at slots g) (move.Seat role ∷ []) in
    let seat = from_seat m log slots t g k lt low.1 in
    let d = begun_at m log slots t g k lt seat.running in
    let more = held_more (scans slots g) role in
    subst (λ (x : Slotted). IsKept m later (set slots g x) (record t { needed = needed; spare = spare })) (sym step.0)
    (kept_board m log later (event.Seat backend g role ∷ reverse log) slots t g needed spare (scan_of new) (at slots g).board.outputs k lt (content_same m g (at slots g) (scan_of new) (k.fits.content g lt)) (ap reverse items ∙ reverse-append log (event.Seat backend g role ∷ []))
    (record { begun_as = λ f. refl; finished_as = λ f. refl; finishes_as = refl; some = λ e. absurd (cc) }) (k.calm g lt) (k.asks g lt)
    (follows_seat (run_of m) (reverse log) (scans slots) (scans (set slots g new)) backend g d.0 role (scan_of new) k.fits.follows k.fits.whole none low d.1 (by_run m log slots t g 64 (move.Seat role ∷ []) (scan_of new) k lt step.1) (changed_set slots g new lt))
    (omega arith) room)

-- ---- what is found at the board that is looked up
pub lowest_in : (Has : ℕ → Type 0) (m : Meaning) (log : List Event) (slots : List Slotted) (t : Tools) (g : ℕ) → IsKept m log slots t → IsLowest (run_of m) Has g → g < length slots
lowest_in Has m log slots t g k low = let a = low.0 in let e = k.fits.size in omega arith

pub seat_few : (m : Meaning) (log : List Event) (slots : List Slotted) (t : Tools) (g : ℕ) (s : Slotted) → IsKept m log slots t → IsLowest (run_of m) (MaySeat (run_of m) (reverse log)) g → s ≡ get_or slots g s → holders (scan_of s) < wanted (scan_of s)
seat_few m log slots t g s k low is =
    let lt = lowest_in (MaySeat (run_of m) (reverse log)) m log slots t g k low in
    subst (λ (x : Slotted). holders (scan_of x) < wanted (scan_of x)) (sym (looked slots g s lt is)) (from_seat m log slots t g k lt low.1).few

pub seat_some : (m : Meaning) (log : List Event) (slots : List Slotted) (t : Tools) (g : ℕ) (s : Slotted) → IsKept m log slots t → IsLowest (run_of m) (MaySeat (run_of m) (reverse log)) g → s ≡ get_or slots g s
    → ((r : ℕ) → r < 64 → is_free (scan_of s) r ≡ false) → ⊥
seat_some m log slots t g s k low is none =
    let lt = lowest_in (MaySeat (run_of m) (reverse log)) m log slots t g k low in
    let free = (from_seat m log slots t g k lt low.1).free in
    true≢false (sym free.2 ∙ ap (λ (x : Slotted). is_free (scan_of x) free.0) (sym (looked slots g s lt is)) ∙ none free.0 free.1)

pub open_full : (m : Meaning) (log : List Event) (slots : List Slotted) (t : Tools) (g : ℕ) (s : Slotted) → IsKept m log slots t → IsLowest (run_of m) (IsOpen (run_of m) (reverse log)) g → s ≡ get_or slots g s
    → (is_full (scan_of s).scan.marks ≡ false) ⊎ ((scan_of s).collecting ≡ true) → ⊥
open_full m log slots t g s k low is none =
    let lt = lowest_in (IsOpen (run_of m) (reverse log)) m log slots t g k low in
    let same = looked slots g s lt is in
    let one = and_parts (is_running (at slots g)) (is_full (scans slots g).scan.marks && not (scans slots g).collecting) (from_open m log slots t g k lt low.1) in
    let two = and_parts (is_full (scans slots g).scan.marks) (not (scans slots g).collecting) one.1 in
    elim none [
      | inl e ↦ true≢false (sym two.0 ∙ ap (λ (x : Slotted). is_full (scan_of x).scan.marks) (sym same) ∙ e)
      | inr e ↦ true≢false (sym e ∙ ap (λ (x : Slotted). (scan_of x).collecting) same ∙ not_false (scans slots g).collecting two.1)
    ]

pub collects_some : (s s' : Slotted) (found : Option (List (List (List Value)))) (parts : List (List (List Value))) → found ≡ Some parts → Collects s s' found
    → (s' ≡ with_board s (collected_as true (scan_of s)) s.board.outputs) × (map Some parts ≡ s.board.outputs)
collects_some s s' found parts is told =
    let b = subst (λ o. CollectsKept s.board s'.board o) is told.board in
    (told.rest ∙ ap (λ (x : Kept (List (List Value))). with_board s x.running x.outputs) b.2, b.3)

pub collects_none : (s s' : Slotted) (found : Option (List (List (List Value)))) → ((parts : List (List (List Value))) → found ≡ Some parts → ⊥) → Collects s s' found → (is_full (scan_of s).scan.marks ≡ false) ⊎ ((scan_of s).collecting ≡ true)
collects_none s s' None none told = told.board.1
collects_none s s' (Some parts) none told = absurd (none parts refl)

-- ---- what the calls answer
pub is_job : (m : Meaning) (log : List Event) (slots : List Slotted) (t : Tools) (l new : Ledger) (g role : ℕ) (found : List Table) (s s' : Slotted) → IsKept m log slots t → record { log = log; slots = slots } ≡ l → IsLowest (run_of m) (MaySeat (run_of m) (reverse log)) g → s ≡ get_or slots g s
    → map Some found ≡ map (λ i. value_in (at slots i).stage) (at slots g).inputs
    → Makes (rule_by s.by_entries) 64 (scan_of s) (move.Seat role ∷ []) (scan_of s') → s' ≡ with_board s (scan_of s') s.board.outputs → new.slots ≡ set slots g s' → IsJob l new g role found
is_job m log slots t l new g role found s s' k view low is values made rest now =
    let lt = lowest_in (MaySeat (run_of m) (reverse log)) m log slots t g k low in
    subst (λ (x : Ledger). IsJob x new g role found) view (record {
      inside = lt;
      below = made.0.0.1.0;
      inputs = values;
      slots = now ∙ ap (set slots g) (as_moved 64 (move.Seat role ∷ []) slots g s s' lt is made rest).0;
    })

pub is_collect : (m : Meaning) (log : List Event) (slots : List Slotted) (t : Tools) (l new : Ledger) (g : ℕ) (parts : List (List (List Value))) (s s' : Slotted) → IsKept m log slots t → record { log = log; slots = slots } ≡ l
    → IsLowest (run_of m) (IsOpen (run_of m) (reverse log)) g → s ≡ get_or slots g s → s' ≡ with_board s (collected_as true (scan_of s)) s.board.outputs → map Some parts ≡ s.board.outputs → new.slots ≡ set slots g s' → IsCollect m l new g parts
is_collect m log slots t l new g parts s s' k view low is rest outs now =
    let lt = lowest_in (IsOpen (run_of m) (reverse log)) m log slots t g k low in
    let same = looked slots g s lt is in
    subst (λ (x : Ledger). IsCollect m x new g parts) view (record {
      inside = lt;
      slots = now ∙ ap (set slots g) (rest ∙ ap (λ (x : Slotted). with_board x (collected_as true (scan_of x)) x.board.outputs) same);
      outputs = outs ∙ ap (λ (x : Slotted). x.board.outputs) same;
      parts = content_parts m g (at slots g) parts (k.fits.content g lt) (outs ∙ ap (λ (x : Slotted). x.board.outputs) same);
    })

-- what is seated has all that it reads
pub seat_fed : (m : Meaning) (log : List Event) (slots xs : List Slotted) (t : Tools) (g : ℕ) (s : Slotted) → IsKept m log slots t → IsLowest (run_of m) (MaySeat (run_of m) (reverse log)) g → s ≡ get_or slots g s → xs ≡ slots → AreFed xs s.inputs
seat_fed m log slots xs t g s k low is same =
    let lt = lowest_in (MaySeat (run_of m) (reverse log)) m log slots t g k low in
    subst (λ ys. AreFed ys s.inputs) (sym same) (subst (λ (x : Slotted). AreFed slots x.inputs) (sym (looked slots g s lt is)) (k.fed g lt (from_seat m log slots t g k lt low.1).running))

-- one of several that are finished
pub fed_at : (slots : List Slotted) (xs : List ℕ) (k x : ℕ) → k < length xs → x ≡ get_or xs k x → AreFed slots xs → is_ended (at slots x) ≡ true
fed_at slots [] k x lt is fed = absurd (omega arith)
fed_at slots (y ∷ ys) zero x lt is fed = ap (λ q. is_ended (at slots q)) is ∙ (and_parts (is_ended (at slots y)) (list_all (λ i. is_ended (at slots i)) ys) fed).0
fed_at slots (y ∷ ys) (suc k) x lt is fed = fed_at slots ys k x (omega arith) is (and_parts (is_ended (at slots y)) (list_all (λ i. is_ended (at slots i)) ys) fed).1

-- a number past all fragments is that of none
pub ended_inside : (slots : List Slotted) (f : ℕ) → is_ended (at slots f) ≡ true → length slots ≤ f → ⊥
ended_inside slots f e past = true≢false (sym e ∙ ap is_ended (get_or_past slots f no_slot past))

-- what is finished has a value
ended_value : (st : Stage) → kind.ended_in st ≡ true → value_in st ≡ None → ⊥
ended_value kind.waiting e none = absurd (cc)
ended_value kind.runs e none = absurd (cc)
ended_value (kind.ended v) e none = absurd (cc)

pub has_value : (s : Slotted) → is_ended s ≡ true → value_in s.stage ≡ None → ⊥
has_value s e none = ended_value s.stage e none
