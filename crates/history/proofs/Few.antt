-- At most two fragments run, and beside one that is collected at most one.
use Rattle.std.proofs.Common.{◌≡◌, ℕ, zero, suc, ◌+◌, ◌<◌, ◌≤◌, ◌⊎◌, ◌≢◌, ◌&&◌, not, Bool, true, false, cond, eqb, List, [], ◌∷◌, ◌++◌, length, filter, map, refl, ap, sym, ◌∙◌, subst, inl, inr, arith, Option, Some, None, is_some}
use Rattle.std.specs.List.{All}
use Rattle.std.proofs.lemmas.Bool.{cases_Bool, cases_eq, eqb-true, eq-eqb, ne_eqb}
use Rattle.page_partition.specs.Counts.{numbers_from}
use Rattle.adjust_protocol.specs.Moves.{Move}
use Rattle.adjust_protocol.specs.Moves as move
use Rattle.adjust_protocol.specs.History.{is_collecting_in, is_full_in, pending_in, wanted_in}
use Rattle.io_cpu_scheduler.specs.declared.load.Load.{Load}
use Rattle.io_cpu_scheduler.specs.declared.load.Part.{Part}
use Rattle.io_cpu_scheduler.specs.Decisions.{nothing}
use Rattle.io_cpu_scheduler.specs.Sensible.{IsSensible}
use Rattle.io_cpu_scheduler.proofs.Sense.{decision_sense}
use Rattle.history.specs.declared.event.Event.{Event}
use Rattle.history.specs.declared.event.Event.TheVariants as event
use Rattle.history.specs.Outline.{Run, IsWithin}
use Rattle.history.specs.Projected.{part_for, earlier_of, given, begun, is_finished, runs, asks, moves_of}
use Rattle.history.specs.State.{setting_from, is_collecting, load_of, running_loads, ready_loads, machine_after, decision_after}
use Rattle.history.specs.Allowed.{IsLegal}
use Rattle.history.specs.Running.{AtMostTwo, IsAsked}
use Rattle.history.proofs.Degrees.{machine_fits}

-- ---- lists of numbers that pass a test
none_pass : (t : ℕ → Bool) (q n : ℕ) → ((f : ℕ) → q ≤ f → t f ≡ true → ⊥) → filter t (numbers_from q n) ≡ []
none_pass t q zero h = refl
none_pass t q (suc n) h =
    elim (cases_Bool (t q)) [ inl y ↦ absurd (h q (omega arith) y) | inr z ↦ simp z (none_pass t (suc q) n (λ f l. h f (omega arith))) ]

one_passes : (t : ℕ → Bool) (c q n : ℕ) → ((f : ℕ) → q ≤ f → f < q + n → t f ≡ true → f ≡ c) → length (filter t (numbers_from q n)) ≤ 1
one_passes t c q zero h = omega arith
one_passes t c q (suc n) h =
    elim (cases_Bool (t q)) [
      | inl y ↦
          let here : q ≡ c = h q (omega arith) (omega arith) y in
          let rest = rest_none t c (suc q) n (omega arith) (λ f l r e. h f (omega arith) (omega arith) e) in
          simp (y, rest) (omega arith)
      | inr z ↦ simp z (one_passes t c (suc q) n (λ f l r e. h f (omega arith) (omega arith) e))
    ]
  where
    rest_none : (t : ℕ → Bool) (c q n : ℕ) → c < q → ((f : ℕ) → q ≤ f → f < q + n → t f ≡ true → f ≡ c) → filter t (numbers_from q n) ≡ []
    rest_none t c q zero lt h = refl
    rest_none t c q (suc n) lt h =
        elim (cases_Bool (t q)) [
          | inl y ↦ absurd (let e = h q (omega arith) (omega arith) y in omega arith)
          | inr z ↦ simp z (rest_none t c (suc q) n (omega arith) (λ f l r e. h f (omega arith) (omega arith) e))
        ]

length_mapped : {A B : Type 0} (g : A → B) (xs : List A) → length (map g xs) ≡ length xs
length_mapped g [] = refl
length_mapped g (x ∷ xs) = ap (λ n. suc n) (length_mapped g xs)

-- what holds of all loads holds of each
each_of : (P : Load → Type 0) (g : ℕ → Load) (t : ℕ → Bool) (q n : ℕ) → All P (map g (filter t (numbers_from q n))) → (f : ℕ) → q ≤ f → f < q + n → t f ≡ true → P (g f)
each_of P g t q zero all f l r e = absurd (omega arith)
each_of P g t q (suc n) all f l r e =
    elim (cases_eq q f) [
      | inl is ↦
          let y : t q ≡ true = ap t is ∙ e in
          let all' = simp y at all in
          subst (λ (k : ℕ). P (g k)) is (all' 0 (g q) (omega arith))
      | inr ne ↦
          elim (cases_Bool (t q)) [
            | inl y ↦
                let all' = simp y at all in
                each_of P g t (suc q) n (λ k d lt. all' (suc k) d (omega arith)) f (omega arith) (omega arith) e
            | inr z ↦ each_of P g t (suc q) n (simp z at all) f (omega arith) (omega arith) e
          ]
    ]

-- ---- who is named
part_named : (o : Option Part) (f n : ℕ) → part_for o f ≡ Some n → (p : Part) × (o ≡ Some p) × (f ≡ p.fragment)
part_named None f n e = absurd (cc)
part_named (Some p) f n e =
    elim (cases_Bool (eqb p.fragment f)) [
      | inl y ↦ (p, refl, sym (eqb-true p.fragment f y))
      | inr z ↦ absurd (let e' = simp z at e in cc)
    ]

earlier_none : (o : Option ℕ) → earlier_of o None ≡ o
earlier_none None = refl
earlier_none (Some n) = refl

runs_split : (o n : Option ℕ) (b : Bool) → is_some (earlier_of o n) && not b ≡ true → (is_some o && not b ≡ true) ⊎ ((k : ℕ) × (n ≡ Some k))
runs_split (Some d) n b e = inl e
runs_split None (Some k) b e = inr (k, refl)
runs_split None None b e = absurd (cc)

named_split : (a b : Option ℕ) (k : ℕ) → earlier_of a b ≡ Some k → (a ≡ Some k) ⊎ (b ≡ Some k)
named_split None b k e = inr e
named_split (Some n) b k e = inl e

eq_of : (p : Part) (f k : ℕ) → part_for (Some p) f ≡ Some k → f ≡ p.fragment
eq_of p f k e = elim (cases_Bool (eqb p.fragment f)) [ inl y ↦ sym (eqb-true p.fragment f y) | inr z ↦ absurd (let e' = simp z at e in cc) ]

-- ---- after a decision
abbrev pub AtMostOne : Run → List Event → Type 0
AtMostOne run h = (c : ℕ) × ((f : ℕ) → f < length run.fragments → runs h f ≡ true → f ≡ c)

pub one_load : (run : Run) (h : List Event) → AtMostOne run h → length (running_loads run h) ≤ 1
one_load run h one =
    let few = one_passes (λ f. runs h f) one.0 0 (length run.fragments) (λ f l r e. one.1 f (omega arith) e) in
    let size = length_mapped (λ f. load_of run f) (filter (λ f. runs h f) (numbers_from 0 (length run.fragments))) in
    omega arith

-- what runs after a decision ran before, or is named by it
two_named : (run : Run) (h : List Event) (c : ℕ) (x y : Option Part) → IsSensible (machine_after run h) (running_loads run h) (ready_loads run h) (record { first = x; second = y })
    → ((f : ℕ) → f < length run.fragments → runs h f ≡ true → f ≡ c)
    → (a : ℕ) × (b : ℕ) × ((f : ℕ) → f < length run.fragments → (runs h f ≡ true) ⊎ ((k : ℕ) × (given (record { first = x; second = y }) f ≡ Some k)) → (f ≡ a) ⊎ (f ≡ b))
two_named run h c None None s one = (c, c, λ f lt w. elim w [ inl e ↦ inl (one f lt e) | inr g ↦ absurd (let e = g.1 in cc) ])
two_named run h c (Some p) None s one = (
  c,
  p.fragment,
  λ f lt w. elim w [
    | inl e ↦ inl (one f lt e)
    | inr g ↦ elim (named_split (part_for (Some p) f) None g.0 g.1) [ inl e ↦ inr (eq_of p f g.0 e) | inr e ↦ absurd (cc) ]
  ],
)
two_named run h c None (Some q) s one = (
  c,
  q.fragment,
  λ f lt w. elim w [
    | inl e ↦ inl (one f lt e)
    | inr g ↦ inr (eq_of q f g.0 g.1)
  ],
)
two_named run h c (Some p) (Some q) s one = (
  p.fragment,
  q.fragment,
  λ f lt w. elim w [
    | inl e ↦ each_of (λ r. (r.fragment ≡ p.fragment) ⊎ (r.fragment ≡ q.fragment)) (λ g. load_of run g) (λ g. runs h g) 0 (length run.fragments) (s.pair p q refl refl).goes_on f (omega arith) (omega arith) e
    | inr g ↦ elim (named_split (part_for (Some p) f) (part_for (Some q) f) g.0 g.1) [ inl e ↦ inl (eq_of p f g.0 e) | inr e ↦ inr (eq_of q f g.0 e) ]
  ],
)

two_after : (run : Run) (h : List Event) → IsWithin run → AtMostOne run h
    → (a : ℕ) × (b : ℕ) × ((f : ℕ) → f < length run.fragments → (runs h f ≡ true) ⊎ ((k : ℕ) × (given (decision_after run h) f ≡ Some k)) → (f ≡ a) ⊎ (f ≡ b))
two_after run h within one =
    let d = decision_after run h in
    let s = decision_sense (machine_after run h) (running_loads run h) (ready_loads run h) (machine_fits run h within) (one_load run h one) in
    two_named run h one.0 d.first d.second s one.1

-- ---- what is collected runs
kept : (m : Move) (xs : List Move) (b : Bool) → is_collecting_in (m ∷ xs) ≡ is_collecting_in xs → is_collecting_in (cond b (m ∷ []) [] ++ xs) ≡ true → is_collecting_in xs ≡ true
kept m xs true q e = sym q ∙ e
kept m xs false q e = e

uncollects : (xs : List Move) (b : Bool) → is_collecting_in (cond b (move.Uncollect ∷ []) [] ++ xs) ≡ true → is_collecting_in xs ≡ true
uncollects xs true e = absurd (cc)
uncollects xs false e = e

finishes_at : (xs : List Move) (o n : Option ℕ) (fin b : Bool) → (is_collecting_in xs ≡ true → is_some o && not fin ≡ true)
    → is_collecting_in (cond b (move.Uncollect ∷ []) (asks (is_some o && not fin) n) ++ xs) ≡ true → is_some (earlier_of o n) && not (cond b true fin) ≡ true
finishes_at xs o n fin true h e = absurd (cc)
finishes_at xs (Some d) None false false h e = refl
finishes_at xs (Some d) (Some k) false false h e = refl
finishes_at xs (Some d) n true false h e = h e
finishes_at xs None n fin false h e = absurd (let no = h e in cc)

pub collecting_runs : (run : Run) (h : List Event) → IsLegal run h → (f : ℕ) → is_collecting h f ≡ true → runs h f ≡ true
collecting_runs run [] legal f e = absurd (cc)
collecting_runs run (event.Begin d ∷ h) legal f e = absurd (let e' = subst (λ (xs : List Event). is_collecting xs f ≡ true) legal.0.0 e in cc)
collecting_runs run (event.Seat b g r ∷ h) legal f e = collecting_runs run h legal.1 f (kept (move.Seat r) (moves_of h f) (eqb g f) refl e)
collecting_runs run (event.Claim g r ps ∷ h) legal f e = collecting_runs run h legal.1 f (kept (move.Claim r ps) (moves_of h f) (eqb g f) refl e)
collecting_runs run (event.Settle g r n ∷ h) legal f e = collecting_runs run h legal.1 f (kept (move.Settle r n) (moves_of h f) (eqb g f) refl e)
collecting_runs run (event.Divide g n c ∷ h) legal f e = collecting_runs run h legal.1 f (kept (move.Divide n c) (moves_of h f) (eqb g f) refl e)
collecting_runs run (event.Leave g r ∷ h) legal f e = collecting_runs run h legal.1 f (kept (move.Leave r) (moves_of h f) (eqb g f) refl e)
collecting_runs run (event.Collect b g ∷ h) legal f e =
    elim (cases_eq g f) [
      | inl i ↦ subst (λ (q : ℕ). runs h q ≡ true) i legal.0.1.1.0
      | inr ne ↦ collecting_runs run h legal.1 f (subst (λ (b : Bool). is_collecting_in (cond b (move.Collect ∷ []) [] ++ moves_of h f) ≡ true) (ne_eqb g f ne) e)
    ]
collecting_runs run (event.Uncollect g ∷ h) legal f e = collecting_runs run h legal.1 f (uncollects (moves_of h f) (eqb g f) e)
collecting_runs run (event.Finish g d ∷ h) legal f e = finishes_at (moves_of h f) (begun h f) (given d f) (is_finished h f) (eqb g f) (collecting_runs run h legal.1 f) e

-- ---- at most two run
not_finished : (o n : Option ℕ) (b fin : Bool) → is_some (earlier_of o n) && not (cond b true fin) ≡ true → b ≡ false
not_finished o n true fin e = absurd (elim o as (λ (o : Option ℕ). is_some (earlier_of o n) && false ≡ true → ⊥) [ None ↦ λ e. elim n as (λ (n : Option ℕ). is_some n && false ≡ true → ⊥) [ None ↦ λ e. cc | Some k ↦ λ e. cc ] e | Some d ↦ λ e. cc ] e)
not_finished o n false fin e = refl

ran_before : (o : Option ℕ) (fin : Bool) → is_some (earlier_of o None) && not fin ≡ true → is_some o && not fin ≡ true
ran_before None fin e = e
ran_before (Some d) fin e = e

-- beside one of two that is finished at most one runs
one_left : (run : Run) (h : List Event) (g : ℕ) → g < length run.fragments → runs h g ≡ true → AtMostTwo run h → AtMostOne run (event.Finish g nothing ∷ h)
one_left run h g lt ran two =
    let other : (f : ℕ) → f < length run.fragments → runs (event.Finish g nothing ∷ h) f ≡ true → (g ≡ f → ⊥) × ((f ≡ two.0) ⊎ (f ≡ two.1)) = λ f l e.
    let b : eqb g f ≡ false = not_finished (begun h f) None (eqb g f) (is_finished h f) e in
    let e' : is_some (earlier_of (begun h f) None) && not (is_finished h f) ≡ true = subst (λ (b : Bool). is_some (earlier_of (begun h f) None) && not (cond b true (is_finished h f)) ≡ true) b e in
    ((λ i. let t = eq-eqb g f i in absurd (cc)), two.2 f l (ran_before (begun h f) (is_finished h f) e')) in
    elim (two.2 g lt ran) [
      | inl a ↦ (two.1, λ f l e. let w = other f l e in elim w.1 [ inl i ↦ absurd (w.0 (a ∙ sym i)) | inr i ↦ i ])
      | inr b ↦ (two.0, λ f l e. let w = other f l e in elim w.1 [ inl i ↦ i | inr i ↦ absurd (w.0 (b ∙ sym i)) ])
    ]

pub at_most_two : (run : Run) (h : List Event) → IsWithin run → IsLegal run h → AtMostTwo run h
at_most_two run [] w legal = (0, 0, λ f l e. absurd (cc))
at_most_two run (event.Begin d ∷ h) w legal =
    subst (λ (xs : List Event). AtMostTwo run (event.Begin d ∷ xs)) (sym legal.0.0)
    (let two = two_after run [] w (0, λ f l e. absurd (cc)) in
    (two.0, two.1, λ f l e. two.2 f l (elim (runs_split None (given d f) false e) [ inl n ↦ absurd (cc) | inr k ↦ inr (k.0, ap (λ z. given z f) (sym legal.0.1) ∙ k.1) ])))
at_most_two run (event.Seat b g r ∷ h) w legal = at_most_two run h w legal.1
at_most_two run (event.Claim g r ps ∷ h) w legal = at_most_two run h w legal.1
at_most_two run (event.Settle g r n ∷ h) w legal = at_most_two run h w legal.1
at_most_two run (event.Divide g n c ∷ h) w legal = at_most_two run h w legal.1
at_most_two run (event.Leave g r ∷ h) w legal = at_most_two run h w legal.1
at_most_two run (event.Collect b g ∷ h) w legal = at_most_two run h w legal.1
at_most_two run (event.Uncollect g ∷ h) w legal = at_most_two run h w legal.1
at_most_two run (event.Finish g d ∷ h) w legal =
    let one = one_left run h g legal.0.1 (collecting_runs run h legal.1 g legal.0.2) (at_most_two run h w legal.1) in
    let two = two_after run (event.Finish g nothing ∷ h) w one in (
      two.0,
      two.1,
      λ f l e. two.2 f l (elim (runs_split (begun h f) (given d f) (cond (eqb g f) true (is_finished h f)) e) [
        | inl r ↦ inl (ap (λ o. is_some o && not (cond (eqb g f) true (is_finished h f))) (earlier_none (begun h f)) ∙ r)
        | inr k ↦ inr (k.0, ap (λ z. given z f) (sym legal.0.3) ∙ k.1)
      ]),
    )

-- what `decide` asks for at a finish
pub one_beside : (run : Run) (h : List Event) (g : ℕ) → IsWithin run → IsLegal run h → g < length run.fragments → is_collecting h g ≡ true → length (running_loads run (event.Finish g nothing ∷ h)) ≤ 1
one_beside run h g w legal lt e = one_load run (event.Finish g nothing ∷ h) (one_left run h g lt (collecting_runs run h legal g e) (at_most_two run h w legal))

-- ---- who is asked
asked_by : (run : Run) (f : ℕ) (o : Option ℕ) (n : Option ℕ) (k : ℕ) (fin b : Bool) (xs : List Move) → b ≡ false → is_some o && not fin ≡ true → n ≡ Some k → is_full_in (setting_from run f o) xs ≡ false → k ≢ wanted_in (setting_from run f o) xs
    → pending_in (setting_from run f (earlier_of o n)) (cond b (move.Uncollect ∷ []) (asks (is_some o && not fin) n) ++ xs) ≡ Some k
asked_by run f o n k fin true xs is ran gives full ne = absurd (cc)
asked_by run f None n k fin false xs is ran gives full ne = absurd (cc)
asked_by run f (Some d) n k true false xs is ran gives full ne = absurd (cc)
asked_by run f (Some d) None k false false xs is ran gives full ne = absurd (cc)
asked_by run f (Some d) (Some j) k false false xs is ran gives full ne =
    let S = setting_from run f (Some d) in
    let same : j ≡ k = cc in
    let other : eqb j (wanted_in S xs) ≡ false = ne_eqb j (wanted_in S xs) (λ e. ne (sym same ∙ e)) in
    simp (full, other) gives

pub asked_then : (run : Run) (h : List Event) → IsAsked run h
asked_then run h f g n d apart ran gives full ne =
    asked_by run f (begun h f) (given d f) n (is_finished h f) (eqb g f) (moves_of h f) (ne_eqb g f (λ e. apart (sym e))) ran gives full ne
