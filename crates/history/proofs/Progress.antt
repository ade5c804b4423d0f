-- Where nothing is held, out or collected and a fragment isn't finished, something can be done.
use Rattle.std.proofs.Common.{◌≡◌, ℕ, zero, suc, ◌+◌, ◌<◌, ◌≤◌, ◌⊎◌, ◌&&◌, not, Bool, true, false, cond, eqb, nat_le, List, [], ◌∷◌, ◌++◌, length, filter, map, refl, ap, sym, ◌∙◌, subst, inl, inr, arith, Option, Some, None, is_some, unwrap_or}
use Rattle.std.specs.Prelude.{IfSome}
use Rattle.std.specs.List.{All, AllByRecursion, Contains, list_all}
use Rattle.std.proofs.lemmas.Bool.{cases_Bool, cases_lt, cases_eq, eq-eqb, ne_eqb, lt-ltb, le-ltb}
use Rattle.page_partition.specs.Counts.{count_of, has, numbers_from, sum_below}
use Rattle.page_partition.specs.CountLaws.{sum_below_none, sum_below_same}
use Rattle.adjust_protocol.specs.Moves.{Move, Seat, Claim, Settle, Divide, Leave, Collect, Uncollect, Ask}
use Rattle.adjust_protocol.specs.History as scan
use Rattle.adjust_protocol.specs.History.{Setting, IsDueIn, pending_in, wanted_in, degree_in, holders_in, held_in, is_free_in, is_full_in, left_in}
use Rattle.rows.specs.declared.plain.Machine.{Machine}
use Rattle.io_cpu_scheduler.specs.declared.load.Load.{Load}
use Rattle.io_cpu_scheduler.specs.declared.load.Part.{Part}
use Rattle.io_cpu_scheduler.specs.declared.load.Decision.{Decision}
use Rattle.io_cpu_scheduler.specs.Decisions.{decision, fresh, lone, paired, nothing}
use Rattle.io_cpu_scheduler.specs.Loads.{lowest}
use Rattle.io_cpu_scheduler.specs.Limits.{IsLoad}
use Rattle.io_cpu_scheduler.specs.Sensible.{IsPartOf}
use Rattle.io_cpu_scheduler.proofs.Leaders.{lowest_is}
use Rattle.io_cpu_scheduler.proofs.Sense.{decision_sense}
use Rattle.history.specs.declared.event.Event.{Event}
use Rattle.history.specs.declared.event.Event.TheVariants as event
use Rattle.history.specs.Outline.{Run, IsWithin, outline}
use Rattle.history.specs.Projected.{part_for, earlier_of, given, begun, is_finished, runs, moves_of, deposited}
use Rattle.history.specs.State.{setting, is_collecting, out, left, is_ready, load_of, running_loads, ready_loads, machine_after, decision_after}
use Rattle.history.specs.Allowed.{IsLegal, NoneDue}
use Rattle.history.specs.Running.{AreOrdered, IsStill, GoesOn}
use Rattle.history.proofs.Counting.{counts_all, has_none, has_some}
use Rattle.history.proofs.Projections.{deposits_are}
use Rattle.history.proofs.Degrees.{machine_fits}
use Rattle.history.proofs.ProjectedLegal.{projected, start_fits, made_up_at}
use Rattle.history.proofs.MadeUp.{divides_fit}
use Rattle.history.proofs.Few.{collecting_runs}

-- ---- a decision names one of those that are ready, where nothing runs
in_order_first : (b : Bool) (x y : Part) → (p : Part) × ((cond {A = Decision} b (record { first = Some y; second = Some x }) (record { first = Some x; second = Some y })).first ≡ Some p)
in_order_first true x y = (y, refl)
in_order_first false x y = (x, refl)

lone_first : (m : Machine) (low : Option Load) (l : Load) → low ≡ Some l → (p : Part) × ((lone m low).first ≡ Some p)
lone_first m None l e = absurd (cc)
lone_first m (Some k) l e = (_, refl)

either_first : (b : Bool) (x y : Decision) → ((p : Part) × (x.first ≡ Some p)) → ((p : Part) × (y.first ≡ Some p)) → (p : Part) × ((cond b x y).first ≡ Some p)
either_first true x y hx hy = hx
either_first false x y hx hy = hy

fresh_first : (m : Machine) (i j low : Option Load) (l : Load) → low ≡ Some l → (p : Part) × ((fresh m i j low).first ≡ Some p)
fresh_first m None j low l e = lone_first m low l e
fresh_first m (Some i) None low l e = lone_first m low l e
fresh_first m (Some i) (Some j) low l e = either_first (nat_le 2 m.backends) (paired m i j) (lone m low) (in_order_first _ _ _) (lone_first m low l e)

decision_first : (m : Machine) (l : Load) (ls : List Load) → All IsLoad (l ∷ ls) → (p : Part) × ((decision m [] (l ∷ ls)).first ≡ Some p)
unfolding decision
decision_first m l ls all = fresh_first m _ _ (lowest (l ∷ ls)) _ (lowest_is (l ∷ ls) all)

-- ---- lists of numbers that pass a test
all_cons : (P : Load → Type 0) (x : Load) (xs : List Load) → P x → All P xs → All P (x ∷ xs)
all_cons P x xs px all zero d lt = px
all_cons P x xs px all (suc k) d lt = all k d (omega arith)

all_of : (P : Load → Type 0) (g : ℕ → Load) (t : ℕ → Bool) (q n : ℕ) → ((f : ℕ) → q ≤ f → f < q + n → P (g f)) → All P (map g (filter t (numbers_from q n)))
all_of P g t q zero h = λ k d lt. absurd (omega arith)
all_of P g t q (suc n) h =
    let rest = all_of P g t (suc q) n (λ f l r. h f (omega arith) (omega arith)) in
    elim (cases_Bool (t q)) [
      | inl y ↦ simp y (all_cons P (g q) (map g (filter t (numbers_from (suc q) n))) (h q (omega arith) (omega arith)) rest)
      | inr z ↦ simp z rest
    ]

passes : (g : ℕ → Load) (t : ℕ → Bool) (q n f : ℕ) → q ≤ f → f < q + n → t f ≡ true → (l : Load) × (ls : List Load) × (map g (filter t (numbers_from q n)) ≡ l ∷ ls)
passes g t q zero f l r e = absurd (omega arith)
passes g t q (suc n) f l r e =
    elim (cases_Bool (t q)) [
      | inl y ↦ (g q, map g (filter t (numbers_from (suc q) n)), simp y)
      | inr z ↦ elim (cases_eq q f) [
        | inl is ↦ absurd (let y = ap t is ∙ e in cc)
        | inr ne ↦ let p = passes g t (suc q) n f (omega arith) (omega arith) e in (p.0, p.1, simp z p.2)
      ]
    ]

search_in : (t : ℕ → Bool) (q n : ℕ) → ((f : ℕ) × (q ≤ f) × (f < q + n) × (t f ≡ true)) ⊎ (filter t (numbers_from q n) ≡ [])
search_in t q zero = inr refl
search_in t q (suc n) =
    elim (cases_Bool (t q)) [
      | inl y ↦ inl (q, omega arith, omega arith, y)
      | inr z ↦ elim (search_in t (suc q) n) [
        | inl s ↦ inl (s.0, (let a = s.1 in omega arith), (let b = s.2 in omega arith), s.3)
        | inr none ↦ inr (simp z none)
      ]
    ]

among : (g : ℕ → Load) (t : ℕ → Bool) (q n : ℕ) (x : Load) → Contains (map g (filter t (numbers_from q n))) x → (f : ℕ) × (q ≤ f) × (f < q + n) × (t f ≡ true) × (g f ≡ x)
among g t q zero x c = absurd (let l = c.1 in omega arith)
among g t q (suc n) x c =
    elim (cases_Bool (t q)) [
      | inl y ↦ front (map g (filter t (numbers_from (suc q) n))) (simp y at c) (λ rest. among g t (suc q) n x rest) y
      | inr z ↦ let a = among g t (suc q) n x (simp z at c) in (a.0, (let l = a.1 in omega arith), (let r = a.2 in omega arith), a.3, a.4)
    ]
  where
    front : (ls : List Load) → Contains (g q ∷ ls) x → (Contains ls x → (f : ℕ) × (suc q ≤ f) × (f < suc q + n) × (t f ≡ true) × (g f ≡ x)) → t q ≡ true → (f : ℕ) × (q ≤ f) × (f < q + suc n) × (t f ≡ true) × (g f ≡ x)
    front ls (zero, lt, is) rest y = (q, omega arith, omega arith, y, is)
    front ls (suc k, lt, is) rest y = let a = rest (k, omega arith, is) in (a.0, (let l = a.1 in omega arith), (let r = a.2 in omega arith), a.3, a.4)

-- ---- something runs, where something is ready
abbrev SomeRuns : Run → List Event → Type 0
SomeRuns run h = (f : ℕ) × (f < length run.fragments) × (runs h f ≡ true)

abbrev Busy : Run → List Event → Type 0
Busy run h = (f : ℕ) → f < length run.fragments → is_ready run h f ≡ true → SomeRuns run h

given_first : (d : Decision) (p : Part) → d.first ≡ Some p → (k : ℕ) × (given d p.fragment ≡ Some k)
given_first d p e =
    let self : eqb p.fragment p.fragment ≡ true = eq-eqb p.fragment p.fragment refl in
    let here : part_for (Some p) p.fragment ≡ Some p.degree = simp self in
    (p.degree, ap (λ o. earlier_of (part_for o p.fragment) (part_for d.second p.fragment)) e ∙ ap (λ o. earlier_of o (part_for d.second p.fragment)) here)

some_part : (o : Option Part) (p : Part) (P : Part → Type 0) → o ≡ Some p → IfSome o P → P p
some_part None p P e h = absurd (cc)
some_part (Some q) p P e h = let is : q ≡ p = cc in subst P is h

starts_one : (run : Run) (h : List Event) (f : ℕ) → IsWithin run → AreOrdered run → f < length run.fragments → is_ready run h f ≡ true → running_loads run h ≡ []
    → (g : ℕ) × (g < length run.fragments) × (is_ready run h g ≡ true) × (k : ℕ) × (given (decision_after run h) g ≡ Some k)
starts_one run h f within ordered lt ready none =
    let m = machine_after run h in
    let some = passes (λ q. load_of run q) (λ q. is_ready run h q) 0 (length run.fragments) f (omega arith) (omega arith) ready in
    let all = all_of IsLoad (λ q. load_of run q) (λ q. is_ready run h q) 0 (length run.fragments) (λ q l r. (ordered q (omega arith)).1) in
    let all' = subst (All IsLoad) some.2 all in
    let first = decision_first m some.0 some.1 all' in
    let is : (decision_after run h).first ≡ Some first.0 = ap (λ ls. (decision m ls (ready_loads run h)).first) none ∙ ap (λ ls. (decision m [] ls).first) some.2 ∙ first.1 in
    let sense = decision_sense m [] (ready_loads run h) (machine_fits run h within) (omega arith) in
    let is' : (decision m [] (ready_loads run h)).first ≡ Some first.0 = ap (λ ls. (decision m [] ls).first) some.2 ∙ first.1 in
    let part = some_part (decision m [] (ready_loads run h)).first first.0 (IsPartOf m ([] ++ ready_loads run h)) is' sense.first in
    let from = part.from in
    let one = among (λ q. load_of run q) (λ q. is_ready run h q) 0 (length run.fragments) from.0 from.1 in
    let number : first.0.fragment ≡ one.0 = sym from.2 ∙ ap (λ (l : Load). l.fragment) (sym one.4) in
    let named = given_first (decision_after run h) first.0 is in
    (one.0, (let r = one.2 in omega arith), one.3, named.0, ap (given (decision_after run h)) (sym number) ∙ named.1)

-- what is finished has begun
begun_before : (o n : Option ℕ) → earlier_of o n ≡ None → o ≡ None
begun_before None n e = refl
begun_before (Some d) n e = absurd (cc)

late_finish : (run : Run) (h : List Event) (g f : ℕ) → IsLegal run h → is_collecting h g ≡ true → (is_finished h f ≡ true → begun h f ≡ None → ⊥) → cond (eqb g f) true (is_finished h f) ≡ true → begun h f ≡ None → ⊥
late_finish run h g f legal collecting earlier e n =
    elim (cases_eq g f) [
      | inl i ↦
          let ran = subst (λ (q : ℕ). runs h q ≡ true) i (collecting_runs run h legal g collecting) in
          absurd (let no = ap (λ o. is_some o && not (is_finished h f)) (sym n) ∙ ran in cc)
      | inr ne ↦ earlier (subst (λ (b : Bool). cond b true (is_finished h f) ≡ true) (ne_eqb g f ne) e) n
    ]

pub finished_begun : (run : Run) (h : List Event) → IsLegal run h → (f : ℕ) → is_finished h f ≡ true → begun h f ≡ None → ⊥
finished_begun run [] legal f e n = absurd (cc)
finished_begun run (event.Begin d ∷ h) legal f e n = finished_begun run h legal.1 f e (begun_before (begun h f) (given d f) n)
finished_begun run (event.Seat b g r ∷ h) legal f e n = finished_begun run h legal.1 f e n
finished_begun run (event.Claim g r ps ∷ h) legal f e n = finished_begun run h legal.1 f e n
finished_begun run (event.Settle g r c ∷ h) legal f e n = finished_begun run h legal.1 f e n
finished_begun run (event.Divide g d c ∷ h) legal f e n = finished_begun run h legal.1 f e n
finished_begun run (event.Leave g r ∷ h) legal f e n = finished_begun run h legal.1 f e n
finished_begun run (event.Collect b g ∷ h) legal f e n = finished_begun run h legal.1 f e n
finished_begun run (event.Uncollect g ∷ h) legal f e n = finished_begun run h legal.1 f e n
finished_begun run (event.Finish g d ∷ h) legal f e n = late_finish run h g f legal.1 legal.0.2 (finished_begun run h legal.1 f) e (begun_before (begun h f) (given d f) n)

-- ---- plain steps
unready : (o n : Option ℕ) (b : Bool) → not (is_some (earlier_of o n)) && b ≡ true → not (is_some (earlier_of o None)) && b ≡ true
unready None None b e = e
unready None (Some k) b e = absurd (cc)
unready (Some d) n b e = e

still_runs : (o n : Option ℕ) (b : Bool) → is_some (earlier_of o None) && b ≡ true → is_some (earlier_of o n) && b ≡ true
still_runs None n b e = absurd (cc)
still_runs (Some d) n b e = e

now_runs : (o n : Option ℕ) (k : ℕ) (b r fin : Bool) → n ≡ Some k → not (is_some (earlier_of o None)) && r ≡ true → (o ≡ None → cond b true fin ≡ true → ⊥) → is_some (earlier_of o n) && not (cond b true fin) ≡ true
now_runs None None k b r fin is e late = absurd (cc)
now_runs None (Some j) k true r fin is e late = absurd (late refl refl)
now_runs None (Some j) k false r true is e late = absurd (late refl refl)
now_runs None (Some j) k false r false is e late = refl
now_runs (Some d) n k b r fin is e late = absurd (cc)

busy_finish : (run : Run) (h : List Event) (g : ℕ) (d : Decision) → IsWithin run → AreOrdered run → IsLegal run (event.Finish g d ∷ h) → Busy run (event.Finish g d ∷ h)
busy_finish run h g d within ordered legal f lt ready =
    let h₁ = event.Finish g nothing ∷ h in
    let fin = λ (q : ℕ). list_all (λ i. is_finished h₁ i) (outline run q).inputs in
    let ready₁ = unready (begun h f) (given d f) (fin f) ready in
    elim (search_in (λ q. runs h₁ q) 0 (length run.fragments)) [
      | inl s ↦ (s.0, (let r = s.2 in omega arith), still_runs (begun h s.0) (given d s.0) (not (cond (eqb g s.0) true (is_finished h s.0))) s.3)
      | inr none ↦
          let one = starts_one run h₁ f within ordered lt ready₁ (ap (map (λ q. load_of run q)) none) in
          let named : given d one.0 ≡ Some one.3 = ap (λ z. given z one.0) legal.0.3 ∙ one.4 in (
            one.0,
            one.1,
            now_runs (begun h one.0) (given d one.0) one.3 (eqb g one.0) (fin one.0) (is_finished h one.0) named one.2
                (λ n e. late_finish run h g one.0 legal.1 legal.0.2 (finished_begun run h legal.1 one.0) e n),
          )
    ]

busy_begin : (run : Run) (d : Decision) → IsWithin run → AreOrdered run → d ≡ decision_after run [] → Busy run (event.Begin d ∷ [])
busy_begin run d within ordered is f lt ready =
    let fin = λ (q : ℕ). list_all (λ i. is_finished [] i) (outline run q).inputs in
    let ready₁ = unready None (given d f) (fin f) ready in
    elim (search_in (λ q. runs [] q) 0 (length run.fragments)) [
      | inl s ↦ absurd (let no = s.3 in cc)
      | inr none ↦
          let one = starts_one run [] f within ordered lt ready₁ (ap (map (λ q. load_of run q)) none) in
          let named : given d one.0 ≡ Some one.3 = ap (λ z. given z one.0) is ∙ one.4 in
          (one.0, one.1, now_runs None (given d one.0) one.3 false (fin one.0) false named one.2 (λ n e. absurd (cc)))
    ]

busy : (run : Run) (h : List Event) → IsWithin run → AreOrdered run → IsLegal run h → (h ≡ [] → ⊥) → Busy run h
busy run [] w o legal some = absurd (some refl)
busy run (event.Begin d ∷ h) w o legal some = subst (λ (xs : List Event). Busy run (event.Begin d ∷ xs)) (sym legal.0.0) (busy_begin run d w o legal.0.1)
busy run (event.Seat b g r ∷ []) w o legal some = absurd (let no = legal.0.2.1.0 in cc)
busy run (event.Claim g r ps ∷ []) w o legal some = absurd (let no = legal.0.2.held in cc)
busy run (event.Settle g r n ∷ []) w o legal some = absurd (let no = legal.0.2.1 in omega arith)
busy run (event.Divide g n c ∷ []) w o legal some = absurd (let no = legal.0.2.0 in cc)
busy run (event.Leave g r ∷ []) w o legal some = absurd (let no = legal.0.2.1 in cc)
busy run (event.Collect b g ∷ []) w o legal some = absurd (let no = legal.0.1.1.0 in cc)
busy run (event.Uncollect g ∷ []) w o legal some = absurd (let no = legal.0.2 in cc)
busy run (event.Seat b g r ∷ e ∷ h) w o legal some = busy run (e ∷ h) w o legal.1 (λ z. cc)
busy run (event.Claim g r ps ∷ e ∷ h) w o legal some = busy run (e ∷ h) w o legal.1 (λ z. cc)
busy run (event.Settle g r n ∷ e ∷ h) w o legal some = busy run (e ∷ h) w o legal.1 (λ z. cc)
busy run (event.Divide g n c ∷ e ∷ h) w o legal some = busy run (e ∷ h) w o legal.1 (λ z. cc)
busy run (event.Leave g r ∷ e ∷ h) w o legal some = busy run (e ∷ h) w o legal.1 (λ z. cc)
busy run (event.Collect b g ∷ e ∷ h) w o legal some = busy run (e ∷ h) w o legal.1 (λ z. cc)
busy run (event.Uncollect g ∷ e ∷ h) w o legal some = busy run (e ∷ h) w o legal.1 (λ z. cc)
busy run (event.Finish g d ∷ h) w o legal some = busy_finish run h g d w o legal

-- ---- the lowest that isn't finished runs, or is ready
least_not : (t : ℕ → Bool) (n : ℕ) → ((m : ℕ) × (m < n) × (t m ≡ false) × ((g : ℕ) → g < m → t g ≡ true)) ⊎ ((g : ℕ) → g < n → t g ≡ true)
least_not t zero = inr (λ g l. absurd (omega arith))
least_not t (suc n) =
    elim (least_not t n) [
      | inl s ↦ inl (s.0, (let l = s.1 in omega arith), s.2, s.3)
      | inr all ↦ elim (cases_Bool (t n)) [
        | inl y ↦ inr (λ g l. elim (cases_eq g n) [ inl is ↦ ap t is ∙ y | inr ne ↦ all g (omega arith) ])
        | inr z ↦ inl (n, omega arith, z, all)
      ]
    ]

inputs_finished : (t : ℕ → Bool) (f : ℕ) (inputs : List ℕ) → AllByRecursion (λ g. g < f) inputs → ((g : ℕ) → g < f → t g ≡ true) → list_all t inputs ≡ true
inputs_finished t f [] below h = refl
inputs_finished t f (x ∷ xs) below h = let y = h x below.0 in simp y (inputs_finished t f xs below.1 h)

begun_runs : (o : Option ℕ) (fin all : Bool) → fin ≡ false → all ≡ true → (is_some o && not fin ≡ true) ⊎ (not (is_some o) && all ≡ true)
begun_runs None true all e a = absurd (cc)
begun_runs None false all e a = inr a
begun_runs (Some d) true all e a = absurd (cc)
begun_runs (Some d) false all e a = inl refl

some_runs : (run : Run) (h : List Event) → IsWithin run → AreOrdered run → IsLegal run h → (h ≡ [] → ⊥) → (f : ℕ) → f < length run.fragments → is_finished h f ≡ false → SomeRuns run h
some_runs run h w o legal some f lt e =
    elim (least_not (λ q. is_finished h q) (length run.fragments)) [
      | inr all ↦ absurd (let y = all f lt in cc)
      | inl m ↦
          let inputs = inputs_finished (λ q. is_finished h q) m.0 (outline run m.0).inputs (o m.0 m.1).0 m.3 in
          elim (begun_runs (begun h m.0) (is_finished h m.0) (list_all (λ q. is_finished h q) (outline run m.0).inputs) m.2 inputs) [
            | inl ran ↦ (m.0, m.1, ran)
            | inr ready ↦ busy run h w o legal some m.0 m.1 ready
          ]
    ]

-- ---- a running fragment goes on
sum_ones : (n : ℕ) → sum_below n (λ p. 1) ≡ n
unfolding sum_below
sum_ones zero = refl
sum_ones (suc n) = let ih = sum_ones n in omega arith

full_or_left : (xs : List ℕ) (n : ℕ) → ((p : ℕ) → n ≤ p → count_of p xs ≡ 0) → ((p : ℕ) → p < n → count_of p xs ≤ 1) → (eqb (length xs) n ≡ true) ⊎ ((p : ℕ) × (p < n) × (count_of p xs ≡ 0))
full_or_left xs n none few =
    elim (least_not (λ p. has p xs) n) [
      | inl m ↦ inr (m.0, m.1, has_none m.0 xs m.2)
      | inr all ↦
          let counts = counts_all n xs none in
          let ones = sum_below_same n (λ p. count_of p xs) (λ p. 1) (λ p l. let a = has_some p xs (all p l) in let b = few p l in omega arith) in
          inl (eq-eqb (length xs) n (let c = sum_ones n in omega arith))
    ]

some_of : (n : ℕ) (f : ℕ → ℕ) → 0 < sum_below n f → (r : ℕ) × (r < n) × (0 < f r)
unfolding sum_below
some_of zero f h = absurd (omega arith)
some_of (suc n) f h =
    elim (cases_lt 0 (f n)) [
      | inl lt ↦ (n, omega arith, lt)
      | inr ge ↦ let s = some_of n f (omega arith) in (s.0, (let l = s.1 in omega arith), s.2)
    ]

counted : (p : ℕ) (xs : List ℕ) → 0 < count_of p xs → 0 < length xs
counted p [] h = h
counted p (x ∷ xs) h = omega arith

degree_fits : (S : Setting) (h : List Move) → scan.IsLegal S h → 1 ≤ S.degree → 1 ≤ degree_in S h
degree_fits S [] legal low = low
degree_fits S (Seat r ∷ h) legal low = degree_fits S h legal.1 low
degree_fits S (Claim r ps ∷ h) legal low = degree_fits S h legal.1 low
degree_fits S (Settle r n ∷ h) legal low = degree_fits S h legal.1 low
degree_fits S (Divide n c ∷ h) legal low = (divides_fit S (Divide n c ∷ h) legal).0.0
degree_fits S (Leave r ∷ h) legal low = degree_fits S h legal.1 low
degree_fits S (Collect ∷ h) legal low = degree_fits S h legal.1 low
degree_fits S (Uncollect ∷ h) legal low = degree_fits S h legal.1 low
degree_fits S (Ask n ∷ h) legal low = degree_fits S h legal.1 low

some_number : (o : Option ℕ) → (o ≡ None → ⊥) ⊎ (o ≡ None)
some_number None = inr refl
some_number (Some n) = inl (λ e. cc)

goes_on_at : (run : Run) (h : List Event) → IsWithin run → IsLegal run h → NoneDue run h → IsStill run h → (f : ℕ) → f < length run.fragments → runs h f ≡ true → GoesOn run h
goes_on_at run h w legal whole still f lt ran =
    let S = setting run h f in
    let xs = moves_of h f in
    let P = (outline run f).positions in
    let quiet = still f lt in
    let one = projected run h w legal f lt in
    let made = made_up_at run h w legal f lt in
    let outs = λ (p : ℕ). sum_below_none 64 (λ r. count_of p (out h f r)) (λ r l. ap (count_of p) (quiet.0 r l).1) in
    let none : (p : ℕ) → P ≤ p → count_of p (deposited h f) ≡ 0 = λ p l. (let m = made p in let t = le-ltb p P l in let m' = simp t at m in omega arith) in
    let few : (p : ℕ) → p < P → count_of p (deposited h f) ≤ 1 = λ p l. (let m = made p in let t = lt-ltb p P l in let m' = simp t at m in omega arith) in
    elim (full_or_left (deposited h f) P none few) [
      | inl full ↦ inl (f, lt, (ran, ap (λ ds. eqb (length ds) P) (deposits_are h f) ∙ full, quiet.1))
      | inr p ↦
          let m = made p.0 in
          let t = lt-ltb p.0 P p.1 in
          let m' = simp t at m in
          let z = p.2 in
          let o = outs p.0 in
          let r = some_of 64 (λ r. count_of p.0 (left run h f r)) (omega arith) in
          let some = counted p.0 (left run h f r.0) r.2 in
          let free : is_free_in S xs r.0 ≡ true = (let a = (quiet.0 r.0 r.1).0 in let b = lt-ltb 0 (length (left run h f r.0)) some in simp (a, b)) in
          let nobody = sum_below_none 64 (λ r. cond (held_in xs r) 1 0) (λ r l. ap (λ b. cond {A = ℕ} b 1 0) (quiet.0 r l).0) in
          let calm : pending_in S xs ≡ None = elim (some_number (pending_in S xs)) [
            | inl y ↦ absurd (whole f lt (y, λ role l. (quiet.0 role l).1))
            | inr n ↦ n
          ] in
          let low = degree_fits S xs one (start_fits run h w legal f).0 in
          let wants : wanted_in S xs ≡ degree_in S xs = ap (λ o. unwrap_or o (degree_in S xs)) calm in
          inr (f, lt, (ran, (r.0, r.1, free), omega arith))
    ]

pub goes_on : (run : Run) (h : List Event) → IsWithin run → AreOrdered run → IsLegal run h → (h ≡ [] → ⊥) → NoneDue run h → IsStill run h → (f : ℕ) → f < length run.fragments → is_finished h f ≡ false → GoesOn run h
goes_on run h w o legal some whole still f lt e =
    let ran = some_runs run h w o legal some f lt e in
    goes_on_at run h w legal whole still ran.0 ran.1 ran.2
