-- What the test accepts is legal.
use Rattle.std.proofs.Common.{◌⊎◌, ◌≡◌, ℕ, zero, suc, ◌<◌, ◌≤◌, Bool, true, false, not, ◌&&◌, ◌||◌, ltb, leb, eqb, List, [], ◌∷◌, length, take, refl, ap, sym, ◌∙◌, inl, inr, arith, Option, Some, None, is_some}
use Rattle.std.proofs.lemmas.Bool.{cases_Bool, cases_lt, cases_eq, eqb-true, ne_eqb, lt-ltb, le-ltb, lt-leb}
use Rattle.io_cpu_scheduler.specs.declared.load.Part.{Part}
use Rattle.io_cpu_scheduler.specs.declared.load.Decision.{Decision}
use Rattle.io_cpu_scheduler.specs.Decisions.{nothing}
use Rattle.adjust_protocol.specs.History.{out_in, held_in, left_in, pending_in, holders_in, wanted_in, deposited, IsIdleIn, MayClaimIn}
use Rattle.adjust_protocol.specs.Moves.{Move}
use Rattle.history.specs.declared.event.Event.{Event}
use Rattle.history.specs.declared.event.Event.TheVariants as event
use Rattle.history.specs.Outline.{Run}
use Rattle.history.specs.Projected.{runs, moves_of}
use Rattle.history.specs.State.{setting, is_full, is_collecting, decision_after, IsDue, IsOpen, MaySeat}
use Rattle.history.specs.Allowed.{IsLowest, NoneDue, OthersCalm, NoneOpen, Permits, IsLegal}
use Rattle.history.specs.Running.{GoesOn, HasNext}
use Rattle.history.specs.Checker.{all_below, some_below, is_empty, same_list, is_number, same_part, same_decision, is_idle, is_due, none_due, others_calm, is_open, none_open, is_free, may_seat, is_lowest, may_claim, may_settle, may_divide, may_leave, is_start, is_one, permits, is_legal}

-- ---- tests
pub both : (a b : Bool) → a && b ≡ true → (a ≡ true) × (b ≡ true)
both true b e = (refl, e)
both false b e = absurd (cc)

pub and : (a b : Bool) → a ≡ true → b ≡ true → a && b ≡ true
and true b x y = y
and false b x y = x

pub not_true : (a : Bool) → not a ≡ true → a ≡ false
not_true true e = absurd (cc)
not_true false e = refl

pub not_false : (a : Bool) → a ≡ false → not a ≡ true
not_false true e = absurd (cc)
not_false false e = refl

pub refuted : (a : Bool) → not a ≡ true → a ≡ true → ⊥
refuted true e f = absurd (cc)
refuted false e f = absurd (cc)

pub either : (a b : Bool) → a || b ≡ true → (a ≡ false → ⊥) → a ≡ true
either true b e n = refl
either false b e n = absurd (n refl)

pub below : (a b : ℕ) → ltb a b ≡ true → a < b
below a b e = elim (cases_lt a b) [ inl lt ↦ lt | inr ge ↦ absurd (let f = le-ltb a b ge in cc) ]

pub at_most : (a b : ℕ) → leb a b ≡ true → a ≤ b
at_most a b e = elim (cases_lt b a) [ inl lt ↦ absurd (let f = lt-leb a b lt in cc) | inr ge ↦ ge ]

pub all_at : (n : ℕ) (t : ℕ → Bool) → all_below n t ≡ true → (r : ℕ) → r < n → t r ≡ true
all_at zero t e r lt = absurd (omega arith)
all_at (suc n) t e r lt =
    let b = both (all_below n t) (t n) e in
    elim (cases_eq r n) [ inl is ↦ ap t is ∙ b.1 | inr ne ↦ all_at n t b.0 r (omega arith) ]

pub at_all : (n : ℕ) (t : ℕ → Bool) → ((r : ℕ) → r < n → t r ≡ true) → all_below n t ≡ true
at_all zero t h = refl
at_all (suc n) t h = and (all_below n t) (t n) (at_all n t (λ r l. h r (omega arith))) (h n (omega arith))

pub some_at : (n : ℕ) (t : ℕ → Bool) → some_below n t ≡ true → (r : ℕ) × (r < n) × (t r ≡ true)
some_at zero t e = absurd (cc)
some_at (suc n) t e =
    elim (cases_Bool (some_below n t)) [
      | inl y ↦ let s = some_at n t y in (s.0, (let l = s.1 in omega arith), s.2)
      | inr z ↦ (n, omega arith, simp z at e)
    ]

or_right : (a b : Bool) → b ≡ true → a || b ≡ true
or_right true b e = refl
or_right false b e = e

or_left : (a b : Bool) → a ≡ true → a || b ≡ true
or_left true b e = refl
or_left false b e = absurd (cc)

at_some : (n : ℕ) (t : ℕ → Bool) (r : ℕ) → r < n → t r ≡ true → some_below n t ≡ true
at_some zero t r lt e = absurd (omega arith)
at_some (suc n) t r lt e =
    elim (cases_eq r n) [
      | inl is ↦ or_right (some_below n t) (t n) (ap t (sym is) ∙ e)
      | inr ne ↦ or_left (some_below n t) (t n) (at_some n t r (omega arith) e)
    ]

pub empty : (xs : List ℕ) → is_empty xs ≡ true → xs ≡ []
empty [] e = refl
empty (x ∷ xs) e = absurd (cc)

pub no_number : (o : Option ℕ) → not (is_some o) ≡ true → o ≡ None
no_number None e = refl
no_number (Some n) e = absurd (cc)

pub a_number : (o : Option ℕ) → (o ≡ None → ⊥) → is_some o ≡ true
a_number None h = absurd (h refl)
a_number (Some n) h = refl

pub number : (o : Option ℕ) (n : ℕ) → is_number o n ≡ true → o ≡ Some n
number None n e = absurd (cc)
number (Some m) n e = ap (λ k. Some k) (eqb-true m n e)

pub lists : (xs ys : List ℕ) → same_list xs ys ≡ true → xs ≡ ys
lists [] [] e = refl
lists [] (y ∷ ys) e = absurd (cc)
lists (x ∷ xs) [] e = absurd (cc)
lists (x ∷ xs) (y ∷ ys) e = let b = both (eqb x y) (same_list xs ys) e in ap (λ z. z ∷ xs) (eqb-true x y b.0) ∙ ap (λ zs. y ∷ zs) (lists xs ys b.1)

pub parts : (o n : Option Part) → same_part o n ≡ true → o ≡ n
parts None None e = refl
parts None (Some q) e = absurd (cc)
parts (Some p) None e = absurd (cc)
parts (Some p) (Some q) e =
    let b = both (eqb p.fragment q.fragment) (eqb p.degree q.degree) e in
    let make : ℕ → ℕ → Option Part = λ f n. Some (record { fragment = f; degree = n }) in
    ap (λ f. make f p.degree) (eqb-true p.fragment q.fragment b.0) ∙ ap (λ n. make q.fragment n) (eqb-true p.degree q.degree b.1)

pub decisions : (d e : Decision) → same_decision d e ≡ true → d ≡ e
decisions d e h =
    let b = both (same_part d.first e.first) (same_part d.second e.second) h in
    let make : Option Part → Option Part → Decision = λ x y. record { first = x; second = y } in
    ap (λ x. make x d.second) (parts d.first e.first b.0) ∙ ap (λ y. make e.first y) (parts d.second e.second b.1)

-- ---- what is due, open and to be seated
pub idle : (xs : List Move) → is_idle xs ≡ true → IsIdleIn xs
idle xs e r lt = empty (out_in xs r) (all_at 64 (λ r. is_empty (out_in xs r)) e r lt)

pub due_test : (run : Run) (h : List Event) (f : ℕ) → IsDue run h f → is_due run h f ≡ true
due_test run h f due =
    and (is_some (pending_in (setting run h f) (moves_of h f))) (is_idle (moves_of h f)) (a_number _ due.0)
    (at_all 64 (λ r. is_empty (out_in (moves_of h f) r)) (λ r lt. ap is_empty (due.1 r lt)))

pub calm_all : (run : Run) (h : List Event) → none_due run h ≡ true → NoneDue run h
calm_all run h e g lt due = refuted (is_due run h g) (all_at (length run.fragments) (λ g. not (is_due run h g)) e g lt) (due_test run h g due)

pub other_or : (a b : Bool) → a || b ≡ true → a ≡ false → b ≡ true
other_or true b e f = absurd (cc)
other_or false b e f = e

pub calm_others : (run : Run) (h : List Event) (f : ℕ) → others_calm run h f ≡ true → OthersCalm run h f
calm_others run h f e g lt ne due =
    let each = all_at (length run.fragments) (λ g. eqb g f || not (is_due run h g)) e g lt in
    refuted (is_due run h g) (other_or (eqb g f) (not (is_due run h g)) each (ne_eqb g f ne)) (due_test run h g due)

pub open_test : (run : Run) (h : List Event) (f : ℕ) → IsOpen run h f → is_open run h f ≡ true
open_test run h f is = and (runs h f && is_full run h f) (not (is_collecting h f)) (and (runs h f) (is_full run h f) is.0 is.1) (not_false (is_collecting h f) is.2)

pub test_open : (run : Run) (h : List Event) (f : ℕ) → is_open run h f ≡ true → IsOpen run h f
test_open run h f e = let b = both (runs h f && is_full run h f) (not (is_collecting h f)) e in let c = both (runs h f) (is_full run h f) b.0 in (c.0, c.1, not_true _ b.1)

pub open_none : (run : Run) (h : List Event) → none_open run h ≡ true → NoneOpen run h
open_none run h e g lt is = refuted (is_open run h g) (all_at (length run.fragments) (λ g. not (is_open run h g)) e g lt) (open_test run h g is)

pub seat_test : (run : Run) (h : List Event) (f : ℕ) → MaySeat run h f → may_seat run h f ≡ true
seat_test run h f s =
    and (runs h f && some_below 64 (is_free run h f)) (ltb (holders_in (moves_of h f)) (wanted_in (setting run h f) (moves_of h f)))
    (and (runs h f) (some_below 64 (is_free run h f)) s.0 (at_some 64 (is_free run h f) s.1.0 s.1.1 s.1.2))
    (lt-ltb _ _ s.2)

pub test_seat : (run : Run) (h : List Event) (f : ℕ) → may_seat run h f ≡ true → MaySeat run h f
test_seat run h f e =
    let b = both (runs h f && some_below 64 (is_free run h f)) (ltb (holders_in (moves_of h f)) (wanted_in (setting run h f) (moves_of h f))) e in
    let c = both (runs h f) (some_below 64 (is_free run h f)) b.0 in
    (c.0, some_at 64 (is_free run h f) c.1, below _ _ b.1)

pub lowest : (run : Run) (Has : ℕ → Type 0) (t : ℕ → Bool) → ((g : ℕ) → Has g → t g ≡ true) → ((g : ℕ) → t g ≡ true → Has g) → (f : ℕ) → is_lowest run t f ≡ true → IsLowest run Has f
lowest run Has t told tells f e =
    let b = both (ltb f (length run.fragments) && t f) (all_below f (λ g. not (t g))) e in
    let c = both (ltb f (length run.fragments)) (t f) b.0 in
    (below _ _ c.0, tells f c.1, λ g lt has. refuted (t g) (all_at f (λ g. not (t g)) b.1 g lt) (told g has))

-- ---- every event
pub starts : (h : List Event) → is_start h ≡ true → h ≡ []
starts [] e = refl
starts (x ∷ h) e = absurd (cc)

pub claims : (run : Run) (h : List Event) (f role : ℕ) (ps : List ℕ) → may_claim (setting run h f) (moves_of h f) role ps ≡ true → MayClaimIn (setting run h f) (moves_of h f) role ps
claims run h f role ps e =
    let S = setting run h f in
    let xs = moves_of h f in
    let a = both (((ltb role 64 && held_in xs role) && (is_empty (out_in xs role) && not (is_some (pending_in S xs)))) && ltb 0 (length (left_in S xs role))) (same_list ps (take S.most (left_in S xs role))) e in
    let b = both ((ltb role 64 && held_in xs role) && (is_empty (out_in xs role) && not (is_some (pending_in S xs)))) (ltb 0 (length (left_in S xs role))) a.0 in
    let c = both (ltb role 64 && held_in xs role) (is_empty (out_in xs role) && not (is_some (pending_in S xs))) b.0 in
    let d = both (ltb role 64) (held_in xs role) c.0 in
    let g = both (is_empty (out_in xs role)) (not (is_some (pending_in S xs))) c.1 in
    record {
      below = below _ _ d.0;
      held = d.1;
      idle = empty _ g.0;
      calm = no_number _ g.1;
      some = below _ _ b.1;
      first = (S.most, omega arith, omega arith, lists _ _ a.1);
    }

pub permitted : (run : Run) (h : List Event) (e : Event) → permits run h e ≡ true → Permits run h e
permitted run h (event.Begin d) t = let b = both (is_start h) (same_decision d (decision_after run [])) t in (starts h b.0, decisions _ _ b.1)
permitted run h (event.Seat backend f role) t =
    let a = both ((none_due run h && none_open run h) && is_lowest run (may_seat run h) f) ((ltb role 64 && is_free run h f role) && all_below role (λ q. not (is_free run h f q))) t in
    let b = both (none_due run h && none_open run h) (is_lowest run (may_seat run h) f) a.0 in
    let c = both (none_due run h) (none_open run h) b.0 in
    let d = both (ltb role 64 && is_free run h f role) (all_below role (λ q. not (is_free run h f q))) a.1 in
    let g = both (ltb role 64) (is_free run h f role) d.0 in
    let low = lowest run (MaySeat run h) (may_seat run h) (seat_test run h) (test_seat run h) f b.1 in
    let calm = calm_all run h c.0 in
    (calm, open_none run h c.1, low, (calm f low.0, below _ _ g.0, g.1, (λ q lt. not_true _ (all_at role (λ q. not (is_free run h f q)) d.1 q lt)), low.1.2))
permitted run h (event.Claim f role ps) t =
    let a = both (none_due run h && is_one run f) (may_claim (setting run h f) (moves_of h f) role ps) t in
    let b = both (none_due run h) (is_one run f) a.0 in
    (calm_all run h b.0, below _ _ b.1, claims run h f role ps a.1)
permitted run h (event.Settle f role count) t =
    let xs = moves_of h f in
    let a = both (none_due run h && is_one run f) (may_settle xs role count) t in
    let b = both (none_due run h) (is_one run f) a.0 in
    let c = both (ltb role 64 && ltb 0 (length (out_in xs role))) (leb count (length (out_in xs role))) a.1 in
    let d = both (ltb role 64) (ltb 0 (length (out_in xs role))) c.0 in
    (calm_all run h b.0, below _ _ b.1, (below _ _ d.0, below _ _ d.1, at_most _ _ c.1))
permitted run h (event.Divide f degree cut) t =
    let S = setting run h f in
    let xs = moves_of h f in
    let a = both (others_calm run h f && is_one run f) (may_divide S xs degree cut) t in
    let b = both (others_calm run h f) (is_one run f) a.0 in
    let c = both (is_number (pending_in S xs) degree && is_idle xs) (eqb cut (S.cut S.positions (deposited xs))) a.1 in
    let d = both (is_number (pending_in S xs) degree) (is_idle xs) c.0 in
    (calm_others run h f b.0, below _ _ b.1, (number _ _ d.0, idle xs d.1, eqb-true _ _ c.1))
permitted run h (event.Leave f role) t =
    let xs = moves_of h f in
    let a = both (others_calm run h f && is_one run f) (may_leave xs role) t in
    let b = both (others_calm run h f) (is_one run f) a.0 in
    let c = both (ltb role 64 && held_in xs role) (is_empty (out_in xs role)) a.1 in
    let d = both (ltb role 64) (held_in xs role) c.0 in
    (calm_others run h f b.0, below _ _ b.1, (below _ _ d.0, d.1, empty _ c.1))
permitted run h (event.Collect backend f) t =
    let a = both (none_due run h) (is_lowest run (is_open run h) f) t in
    (calm_all run h a.0, lowest run (IsOpen run h) (is_open run h) (open_test run h) (test_open run h) f a.1)
permitted run h (event.Uncollect f) t =
    let a = both (none_due run h && is_one run f) (is_collecting h f) t in
    let b = both (none_due run h) (is_one run f) a.0 in
    (calm_all run h b.0, below _ _ b.1, a.1)
permitted run h (event.Finish f d) t =
    let a = both (none_due run h && is_one run f) (is_collecting h f && same_decision d (decision_after run (event.Finish f nothing ∷ h))) t in
    let b = both (none_due run h) (is_one run f) a.0 in
    let c = both (is_collecting h f) (same_decision d (decision_after run (event.Finish f nothing ∷ h))) a.1 in
    (calm_all run h b.0, below _ _ b.1, c.0, decisions _ _ c.1)

pub checked : (run : Run) (h : List Event) → is_legal run h ≡ true → IsLegal run h
checked run [] t = tt
checked run (e ∷ h) t = let b = both (permits run h e) (is_legal run h) t in (permitted run h e b.0, checked run h b.1)

-- ---- what can be done next
least_yes : (t : ℕ → Bool) (n : ℕ) → ((m : ℕ) × (m < n) × (t m ≡ true) × ((g : ℕ) → g < m → t g ≡ false)) ⊎ ((g : ℕ) → g < n → t g ≡ false)
least_yes t zero = inr (λ g l. absurd (omega arith))
least_yes t (suc n) =
    elim (least_yes t n) [
      | inl s ↦ inl (s.0, (let l = s.1 in omega arith), s.2, s.3)
      | inr all ↦ elim (cases_Bool (t n)) [
        | inl y ↦ inl (n, omega arith, y, all)
        | inr z ↦ inr (λ g l. elim (cases_eq g n) [ inl is ↦ ap t is ∙ z | inr ne ↦ all g (omega arith) ])
      ]
    ]

lowest_is : (run : Run) (Has : ℕ → Type 0) (t : ℕ → Bool) → ((g : ℕ) → Has g → t g ≡ true) → ((g : ℕ) → t g ≡ true → Has g) → ((f : ℕ) × IsLowest run Has f) ⊎ ((f : ℕ) → f < length run.fragments → Has f → ⊥)
lowest_is run Has t told tells =
    elim (least_yes t (length run.fragments)) [
      | inl s ↦ inl (s.0, (s.1, tells s.0 s.2, λ g lt has. let y = told g has in let z = s.3 g lt in absurd (cc)))
      | inr none ↦ inr (λ f lt has. let y = told f has in let z = none f lt in absurd (cc))
    ]

seat_next : (run : Run) (h : List Event) (backend f : ℕ) → NoneDue run h → NoneOpen run h → IsLowest run (MaySeat run h) f → (role : ℕ) × Permits run h (event.Seat backend f role)
seat_next run h backend f whole none low =
    let free = low.1.1 in
    elim (least_yes (is_free run h f) 64) [
      | inl s ↦ (s.0, (whole, none, low, (whole f low.0, s.1, s.2, s.3, low.1.2)))
      | inr all ↦ absurd (let z = all free.0 free.1 in let y = free.2 in cc)
    ]

pub next_is : (run : Run) (h : List Event) (backend : ℕ) → NoneDue run h → GoesOn run h → HasNext run h backend
next_is run h backend whole on =
    elim (lowest_is run (IsOpen run h) (is_open run h) (open_test run h) (test_open run h)) [
      | inl s ↦ inl (s.0, (whole, s.1))
      | inr none ↦ elim (lowest_is run (MaySeat run h) (may_seat run h) (seat_test run h) (test_seat run h)) [
        | inl s ↦ let seat = seat_next run h backend s.0 whole none s.1 in inr (s.0, seat.0, seat.1)
        | inr nobody ↦ elim on [ inl o ↦ absurd (none o.0 o.1 o.2) | inr s ↦ absurd (nobody s.0 s.1 s.2) ]
      ]
    ]
