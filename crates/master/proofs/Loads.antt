-- What the slots list as running and ready is what the history says, and what a decision over it names.
use Rattle.std.proofs.Common.{◌≡◌, ◌≢◌, ℕ, zero, suc, ◌+◌, ◌<◌, ◌≤◌, ◌⊎◌, ◌++◌, ◌&&◌, not, Bool, true, false, cond, eqb, List, [], ◌∷◌, length, map, filter, get_or, refl, ap, sym, ◌∙◌, subst, inl, inr, arith, Option, Some, None, IfSome, is_some}
use Rattle.std.specs.List.{All, AllByRecursion, Contains, list_all}
use Rattle.std.proofs.lemmas.Bool.{and_parts, cases_Bool, cases_eq, true≢false}
use Rattle.std.proofs.lemmas.List.Elements.{Contains-append_cases}
use Rattle.page_partition.specs.Counts.{numbers_from}
use Rattle.rows.specs.declared.plain.Machine.{Machine}
use Rattle.io_cpu_scheduler.specs.Degrees.{class_at}
use Rattle.io_cpu_scheduler.specs.Decisions.{decision}
use Rattle.io_cpu_scheduler.specs.Limits.{IsLoad, IsMachine}
use Rattle.io_cpu_scheduler.specs.Sensible.{AreApart, HasFragment, HasPart, IsOf, IsPair, IsPartOf, IsSensible}
use Rattle.io_cpu_scheduler.specs.declared.load.Decision.{Decision}
use Rattle.io_cpu_scheduler.specs.declared.load.Load.{Load}
use Rattle.io_cpu_scheduler.specs.declared.load.Part.{Part}
use Rattle.history.specs.Outline.{Run, outline}
use Rattle.history.specs.Projected.{begun, is_finished, runs}
use Rattle.history.specs.Running.{AreOrdered}
use Rattle.history.specs.State.{decision_after, load_of, machine_after, ready_loads, running_loads}
use Rattle.history.specs.State.{is_ready as is_ready_after}
use Rattle.history.specs.declared.event.Event.{Event}
use Rattle.master.specs.Gives.{CanGive, CanTake, is_ready, ready_in, running_in}
use Rattle.master.specs.Kind.{Slotted, Stage, is_ended, is_running, is_waiting}
use Rattle.master.specs.Kind as kind
use Rattle.master.specs.Ledger.{AreFed, IsSlotOf, at}

-- the slots beside a history
pub record AreSlots (run : Run) (h : List Event) (slots : List Slotted) : Type 0 where
  pub size : length slots ≡ length run.fragments
  pub each : (f : ℕ) → f < length slots → IsSlotOf run h f (at slots f)

stage_runs : (st : Stage) → not (kind.waits_in st) && not (kind.ended_in st) ≡ kind.runs_in st
stage_runs kind.waiting = refl
stage_runs kind.runs = refl
stage_runs (kind.ended v) = refl

pub runs_as : (run : Run) (h : List Event) (slots : List Slotted) (f : ℕ) → AreSlots run h slots → f < length slots → is_running (at slots f) ≡ runs h f
runs_as run h slots f are lt =
    let of = are.each f lt in
    sym (ap (λ b. b && not (is_finished h f)) of.has_begun ∙ ap (λ b. not (is_waiting (at slots f)) && not b) of.has_ended ∙ stage_runs (at slots f).stage)

not_not : (b : Bool) → not (not b) ≡ b
not_not true = refl
not_not false = refl

same_all : (t u : ℕ → Bool) (f : ℕ) (xs : List ℕ) → ((g : ℕ) → g < f → t g ≡ u g) → AllByRecursion (λ g. g < f) xs → list_all t xs ≡ list_all u xs
same_all t u f [] same all = refl
same_all t u f (x ∷ xs) same all = ap (λ b. b && list_all t xs) (same x all.0) ∙ ap (λ b. u x && b) (same_all t u f xs same all.1)

pub ready_as : (run : Run) (h : List Event) (slots : List Slotted) (f : ℕ) → AreSlots run h slots → AreOrdered run → f < length slots → is_ready slots (at slots f) ≡ is_ready_after run h f
ready_as run h slots f are ordered lt =
    let of = are.each f lt in
    let within : f < length run.fragments = (let e = are.size in omega arith) in
    let wait : is_waiting (at slots f) ≡ not (is_some (begun h f)) = sym (ap not of.has_begun ∙ not_not (is_waiting (at slots f))) in
    ap (λ b. b && list_all (λ i. is_ended (at slots i)) (at slots f).inputs) wait
    ∙ ap (λ xs. not (is_some (begun h f)) && list_all (λ i. is_ended (at slots i)) xs) of.inputs
    ∙ ap (λ b. not (is_some (begun h f)) && b) (same_all (λ i. is_ended (at slots i)) (λ i. is_finished h i) f (outline run f).inputs (λ g l. sym (are.each g (omega arith)).has_ended) (ordered f within).0)

-- the loads of those that pass a test
loads_are : (run : Run) (t : Slotted → Bool) (u : ℕ → Bool) (xs : List Slotted) (q : ℕ) → ((k : ℕ) → k < length xs → ((at xs k).load ≡ load_of run (q + k)) × (t (at xs k) ≡ u (q + k)))
    → map (λ (s : Slotted). s.load) (filter t xs) ≡ map (λ f. load_of run f) (filter u (numbers_from q (length xs)))
loads_are run t u [] q each = refl
loads_are run t u (x ∷ xs) q each =
    let z : q + 0 ≡ q = omega arith in
    let first = each 0 (omega arith) in
    let load : x.load ≡ load_of run q = first.0 ∙ ap (λ k. load_of run k) z in
    let test : t x ≡ u q = first.1 ∙ ap u z in
    let rest = loads_are run t u xs (suc q) (λ k lt.
    let e = each (suc k) (omega arith) in
    let s : q + suc k ≡ suc q + k = omega arith in
    (e.0 ∙ ap (λ j. load_of run j) s, e.1 ∙ ap u s)) in
    elim (cases_Bool (u q)) [
      | inl y ↦ let yes' = test ∙ y in simp (yes', y) (ap (λ l. l ∷ map (λ (s : Slotted). s.load) (filter t xs)) load ∙ ap (λ ls. load_of run q ∷ ls) rest)
      | inr z ↦ let no' = test ∙ z in simp (no', z) rest
    ]

pub running_are : (run : Run) (h : List Event) (slots : List Slotted) → AreSlots run h slots → running_in slots ≡ running_loads run h
running_are run h slots are =
    loads_are run is_running (λ f. runs h f) slots 0 (λ k lt. let z : 0 + k ≡ k = omega arith in ((are.each k lt).load ∙ ap (λ j. load_of run j) (sym z), runs_as run h slots k are lt ∙ ap (λ j. runs h j) (sym z)))
    ∙ ap (λ n. map (λ f. load_of run f) (filter (λ f. runs h f) (numbers_from 0 n))) are.size

pub ready_are : (run : Run) (h : List Event) (slots : List Slotted) → AreSlots run h slots → AreOrdered run → ready_in slots ≡ ready_loads run h
ready_are run h slots are ordered =
    loads_are run (is_ready slots) (λ f. is_ready_after run h f) slots 0 (λ k lt. let z : 0 + k ≡ k = omega arith in ((are.each k lt).load ∙ ap (λ j. load_of run j) (sym z), ready_as run h slots k are ordered lt ∙ ap (λ j. is_ready_after run h j) (sym z)))
    ∙ ap (λ n. map (λ f. load_of run f) (filter (λ f. is_ready_after run h f) (numbers_from 0 n))) are.size

-- a decision over them is the decision after the history
pub decided : (run : Run) (h : List Event) (slots : List Slotted) (mach : Machine) (d : Decision) → AreSlots run h slots → AreOrdered run → mach ≡ machine_after run h → d ≡ decision mach (running_in slots) (ready_in slots) → d ≡ decision_after run h
decided run h slots mach d are ordered machine is =
    is ∙ ap (λ m. decision m (running_in slots) (ready_in slots)) machine ∙ ap (λ ls. decision (machine_after run h) ls (ready_in slots)) (running_are run h slots are)
    ∙ ap (λ ls. decision (machine_after run h) (running_loads run h) ls) (ready_are run h slots are ordered)

-- ---- the loads are within the limits
all_cons : (P : Load → Type 0) (x : Load) (xs : List Load) → P x → All P xs → All P (x ∷ xs)
all_cons P x xs px all zero d lt = px
all_cons P x xs px all (suc k) d lt = all k d (omega arith)

all_loads : (P : Load → Type 0) (t : Slotted → Bool) (xs : List Slotted) → ((k : ℕ) → k < length xs → P (at xs k).load) → All P (map (λ (s : Slotted). s.load) (filter t xs))
all_loads P t [] each = λ k d lt. absurd (omega arith)
all_loads P t (x ∷ xs) each =
    let rest = all_loads P t xs (λ k lt. each (suc k) (omega arith)) in
    elim (cases_Bool (t x)) [
      | inl y ↦ simp y (all_cons P x.load (map (λ (s : Slotted). s.load) (filter t xs)) (each 0 (omega arith)) rest)
      | inr z ↦ simp z rest
    ]

pub loads_fit : (run : Run) (h : List Event) (slots : List Slotted) → AreSlots run h slots → AreOrdered run → All IsLoad (running_in slots) × All IsLoad (ready_in slots)
loads_fit run h slots are ordered =
    let each : (k : ℕ) → k < length slots → IsLoad (at slots k).load = λ k lt. subst IsLoad (sym (are.each k lt).load) (ordered k (let e = are.size in omega arith)).1 in
    (all_loads IsLoad is_running slots each, all_loads IsLoad (is_ready slots) slots each)

-- ---- what is listed
each_of : (P : Load → Type 0) (t : Slotted → Bool) (xs : List Slotted) → All P (map (λ (s : Slotted). s.load) (filter t xs)) → (k : ℕ) → k < length xs → t (at xs k) ≡ true → P (at xs k).load
each_of P t [] all k lt e = absurd (omega arith)
each_of P t (x ∷ xs) all zero lt e = let all' = simp e at all in all' 0 x.load (omega arith)
each_of P t (x ∷ xs) all (suc k) lt e =
    elim (cases_Bool (t x)) [
      | inl y ↦ let all' = simp y at all in each_of P t xs (λ j d l. all' (suc j) d (omega arith)) k (omega arith) e
      | inr z ↦ each_of P t xs (simp z at all) k (omega arith) e
    ]

among : (t : Slotted → Bool) (xs : List Slotted) (l : Load) → Contains (map (λ (s : Slotted). s.load) (filter t xs)) l → (k : ℕ) × (k < length xs) × (t (at xs k) ≡ true) × ((at xs k).load ≡ l)
among t [] l c = absurd (let b = c.1 in omega arith)
among t (x ∷ xs) l c =
    elim (cases_Bool (t x)) [
      | inl y ↦ front (map (λ (s : Slotted). s.load) (filter t xs)) (simp y at c) (among t xs l) y
      | inr z ↦ let a = among t xs l (simp z at c) in (suc a.0, (let b = a.1 in omega arith), a.2, a.3)
    ]
  where
    front : (ls : List Load) → Contains (x.load ∷ ls) l → (Contains ls l → (k : ℕ) × (k < length xs) × (t (at xs k) ≡ true) × ((at xs k).load ≡ l)) → t x ≡ true
        → (k : ℕ) × (k < length (x ∷ xs)) × (t (at (x ∷ xs) k) ≡ true) × ((at (x ∷ xs) k).load ≡ l)
    front ls (zero, lt, is) rest y = (0, omega arith, y, is)
    front ls (suc k, lt, is) rest y = let a = rest (k, omega arith, is) in (suc a.0, (let b = a.1 in omega arith), a.2, a.3)

-- what runs goes on under a decision
pub goes_on_at : (run : Run) (h : List Event) (slots : List Slotted) (d : Decision) (f : ℕ) → AreSlots run h slots → All (λ load. HasPart d load.fragment) (running_in slots) → f < length slots → is_running (at slots f) ≡ true → HasPart d f
goes_on_at run h slots d f are all lt e =
    subst (λ k. HasPart d k) (ap (λ (l : Load). l.fragment) (are.each f lt).load) (each_of (λ load. HasPart d load.fragment) is_running slots all f lt e)

-- a load that is listed is that of a fragment which runs, or is ready
pub listed : (run : Run) (h : List Event) (slots : List Slotted) (l : Load) → AreSlots run h slots → Contains (running_in slots ++ ready_in slots) l
    → (f : ℕ) × (f < length slots) × (l ≡ load_of run f) × ((is_running (at slots f) ≡ true) ⊎ (is_ready slots (at slots f) ≡ true))
listed run h slots l are c = elim (Contains-append_cases (running_in slots) (ready_in slots) l c) [
  | inl a ↦ let k = among is_running slots l a in (k.0, k.1, sym k.3 ∙ (are.each k.0 k.1).load, inl k.2)
  | inr b ↦
      let k = among (is_ready slots) slots l b in
      (k.0, k.1, sym k.3 ∙ (are.each k.0 k.1).load, inr k.2)
]

not_ended : (st : Stage) → (kind.runs_in st ≡ true) ⊎ (kind.waits_in st ≡ true) → kind.ended_in st ≡ false
not_ended kind.waiting w = refl
not_ended kind.runs w = refl
not_ended (kind.ended v) w = elim w [ inl e ↦ absurd (cc) | inr e ↦ absurd (cc) ]

-- a part of a sensible decision names a fragment that isn't finished, with 1 to 64 backends
pub part_fits : (run : Run) (h : List Event) (slots : List Slotted) (mach : Machine) (p : Part) → AreSlots run h slots → IsMachine mach → IsPartOf mach (running_in slots ++ ready_in slots) p
    → (p.fragment < length slots) × (1 ≤ p.degree) × (p.degree ≤ 64) × (is_ended (at slots p.fragment) ≡ false)
part_fits run h slots mach p are machine part =
    let l = listed run h slots part.from.0 are part.from.1 in
    let same : p.fragment ≡ l.0 = sym part.from.2 ∙ ap (λ (x : Load). x.fragment) l.2 in
    let below = l.1 in
    let most = part.most in
    let limit = machine.backends in (
      (let s = same in omega arith),
      part.some,
      omega arith,
      ap (λ k. is_ended (at slots k)) same ∙ not_ended (at slots l.0).stage (elim l.3 [ inl r ↦ inl r | inr r ↦ inr (and_parts (is_waiting (at slots l.0)) (list_all (λ i. is_ended (at slots i)) (at slots l.0).inputs) r).0 ]),
    )

-- two parts name two fragments, the lower one first
pub parts_apart : (run : Run) (h : List Event) (slots : List Slotted) (mach : Machine) (p q : Part) → AreSlots run h slots → IsPair mach (running_in slots) (ready_in slots) p q → p.fragment < q.fragment
parts_apart run h slots mach p q are pair =
    let one = listed run h slots pair.apart.one are pair.apart.has_one in
    let other = listed run h slots pair.apart.other are pair.apart.has_other in
    let order = pair.order in
    elim (cases_eq p.fragment q.fragment) [
      | inl e ↦ absurd (
          let a : p.fragment ≡ one.0 = sym pair.apart.first ∙ ap (λ (x : Load). x.fragment) one.2 in
          let b : q.fragment ≡ other.0 = sym pair.apart.second ∙ ap (λ (x : Load). x.fragment) other.2 in
          pair.apart.classes (ap (λ (l : Load). class_at mach l) (one.2 ∙ ap (λ k. load_of run k) (sym a ∙ e ∙ b) ∙ sym other.2)))
      | inr ne ↦ omega arith
    ]

pub decision_in_order : (run : Run) (h : List Event) (slots : List Slotted) (mach : Machine) (d : Decision) → AreSlots run h slots → IsSensible mach (running_in slots) (ready_in slots) d
    → (p q : Part) → d.first ≡ Some p → d.second ≡ Some q → p.fragment < q.fragment
decision_in_order run h slots mach d are sensible p q a b = parts_apart run h slots mach p q are (sensible.pair p q a b)

-- the parts can take their degrees
pub takes : (run : Run) (h : List Event) (slots : List Slotted) (mach : Machine) (o : Option Part) → AreSlots run h slots → IsMachine mach → ((f : ℕ) → f < length slots → is_ended (at slots f) ≡ false → CanGive (at slots f))
    → IfSome o (IsPartOf mach (running_in slots ++ ready_in slots)) → IfSome o (CanTake slots)
takes run h slots mach None are machine can part = tt
takes run h slots mach (Some p) are machine can part =
    let fit = part_fits run h slots mach p are machine part in
    record { inside = fit.0; low = fit.1; high = fit.2; can = can p.fragment fit.0 fit.3 }

-- what a decision names has all that it reads
pub part_fed : (run : Run) (h : List Event) (slots : List Slotted) (mach : Machine) (o : Option Part) (f : ℕ) → AreSlots run h slots → ((g : ℕ) → g < length slots → is_running (at slots g) ≡ true → AreFed slots (at slots g).inputs)
    → IfSome o (IsPartOf mach (running_in slots ++ ready_in slots)) → IsOf o f → AreFed slots (at slots f).inputs
part_fed run h slots mach None f are fed part is = absurd is
part_fed run h slots mach (Some p) f are fed part is =
    let l = listed run h slots part.from.0 are part.from.1 in
    let same : l.0 ≡ f = sym (ap (λ (x : Load). x.fragment) l.2) ∙ part.from.2 ∙ is in
    subst (λ q. AreFed slots (at slots q).inputs) same (elim l.3 [
      | inl r ↦ fed l.0 l.1 r
      | inr r ↦ (and_parts (is_waiting (at slots l.0)) (list_all (λ i. is_ended (at slots i)) (at slots l.0).inputs) r).1
    ])

-- inputs that are finished stay so
pub fed_later : (t u : ℕ → Bool) (f : ℕ) (xs : List ℕ) → ((g : ℕ) → g < f → t g ≡ true → u g ≡ true) → AllByRecursion (λ g. g < f) xs → list_all t xs ≡ true → list_all u xs ≡ true
fed_later t u f [] more all e = refl
fed_later t u f (x ∷ xs) more all e =
    let both = and_parts (t x) (list_all t xs) e in
    let here = more x all.0 both.0 in
    let rest = fed_later t u f xs more all.1 both.1 in
    simp (here, rest)
