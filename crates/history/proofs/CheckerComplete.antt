-- And what is legal passes the test.
use Rattle.std.proofs.Common.{◌≡◌, ℕ, ◌≢◌, Bool, true, false, not, ◌&&◌, ◌||◌, ltb, leb, eqb, List, [], ◌∷◌, length, take, refl, ap, sym, ◌∙◌, arith, Option, Some, None, is_some}
use Rattle.std.proofs.lemmas.Bool.{eq-eqb, lt-ltb, le-leb}
use Rattle.io_cpu_scheduler.specs.declared.load.Part.{Part}
use Rattle.io_cpu_scheduler.specs.declared.load.Decision.{Decision}
use Rattle.io_cpu_scheduler.specs.Decisions.{nothing}
use Rattle.adjust_protocol.specs.History.{out_in, held_in, left_in, pending_in, deposited, IsIdleIn, MayClaimIn}
use Rattle.adjust_protocol.specs.Moves.{Move}
use Rattle.history.specs.declared.event.Event.{Event}
use Rattle.history.specs.declared.event.Event.TheVariants as event
use Rattle.history.specs.Outline.{Run}
use Rattle.history.specs.Projected.{moves_of}
use Rattle.history.specs.State.{setting, is_collecting, decision_after, IsDue, IsOpen, MaySeat}
use Rattle.history.specs.Allowed.{IsLowest, NoneDue, OthersCalm, NoneOpen, Permits, IsLegal}
use Rattle.history.specs.Checker.{all_below, is_empty, same_list, is_number, same_part, same_decision, is_idle, is_due, none_due, others_calm, is_open, none_open, is_free, may_seat, is_lowest, may_claim, may_settle, may_divide, may_leave, is_start, is_one, permits, is_legal}
use Rattle.history.proofs.CheckerSound.{both, and, not_false, at_all, idle, test_open, open_test, test_seat, seat_test}

is_empty_of : (xs : List ℕ) → xs ≡ [] → is_empty xs ≡ true
is_empty_of xs e = ap is_empty e

same_self : (xs : List ℕ) → same_list xs xs ≡ true
same_self [] = refl
same_self (x ∷ xs) = and (eqb x x) (same_list xs xs) (eq-eqb x x refl) (same_self xs)

number_is : (o : Option ℕ) (n : ℕ) → o ≡ Some n → is_number o n ≡ true
number_is o n e = ap (λ z. is_number z n) e ∙ eq-eqb n n refl

no_some : (o : Option ℕ) → o ≡ None → not (is_some o) ≡ true
no_some o e = ap (λ z. not (is_some z)) e

part_self : (o : Option Part) → same_part o o ≡ true
part_self None = refl
part_self (Some p) = and (eqb p.fragment p.fragment) (eqb p.degree p.degree) (eq-eqb p.fragment p.fragment refl) (eq-eqb p.degree p.degree refl)

decision_is : (d e : Decision) → d ≡ e → same_decision d e ≡ true
decision_is d e is = ap (λ z. same_decision d z) (sym is) ∙ and (same_part d.first d.first) (same_part d.second d.second) (part_self d.first) (part_self d.second)

is_a_number : (o : Option ℕ) → is_some o ≡ true → o ≢ None
is_a_number None y e = cc
is_a_number (Some n) y e = cc

refute : (b : Bool) → (b ≡ true → ⊥) → not b ≡ true
refute true h = absurd (h refl)
refute false h = refl

test_due : (run : Run) (h : List Event) (f : ℕ) → is_due run h f ≡ true → IsDue run h f
test_due run h f e = let b = both (is_some (pending_in (setting run h f) (moves_of h f))) (is_idle (moves_of h f)) e in (is_a_number _ b.0, idle (moves_of h f) b.1)

none_due_of : (run : Run) (h : List Event) → NoneDue run h → none_due run h ≡ true
none_due_of run h calm = at_all (length run.fragments) (λ g. not (is_due run h g)) (λ g lt. refute (is_due run h g) (λ e. calm g lt (test_due run h g e)))

or_by : (a b : Bool) → (a ≡ false → b ≡ true) → a || b ≡ true
or_by true b h = refl
or_by false b h = h refl

others_calm_of : (run : Run) (h : List Event) (f : ℕ) → OthersCalm run h f → others_calm run h f ≡ true
others_calm_of run h f calm = at_all (length run.fragments) (λ g. eqb g f || not (is_due run h g))
    (λ g lt. or_by (eqb g f) (not (is_due run h g)) (λ ne. refute (is_due run h g) (λ e. calm g lt (λ i. let t = eq-eqb g f i in cc) (test_due run h g e))))

none_open_of : (run : Run) (h : List Event) → NoneOpen run h → none_open run h ≡ true
none_open_of run h none = at_all (length run.fragments) (λ g. not (is_open run h g)) (λ g lt. refute (is_open run h g) (λ e. none g lt (test_open run h g e)))

lowest_of : (run : Run) (Has : ℕ → Type 0) (t : ℕ → Bool) → ((g : ℕ) → Has g → t g ≡ true) → ((g : ℕ) → t g ≡ true → Has g) → (f : ℕ) → IsLowest run Has f → is_lowest run t f ≡ true
lowest_of run Has t told tells f low =
    and (ltb f (length run.fragments) && t f) (all_below f (λ g. not (t g)))
    (and (ltb f (length run.fragments)) (t f) (lt-ltb _ _ low.0) (told f low.1))
    (at_all f (λ g. not (t g)) (λ g lt. refute (t g) (λ e. low.2 g lt (tells g e))))

idle_of : (xs : List Move) → IsIdleIn xs → is_idle xs ≡ true
idle_of xs i = at_all 64 (λ r. is_empty (out_in xs r)) (λ r lt. is_empty_of (out_in xs r) (i r lt))

claim_of : (run : Run) (h : List Event) (f role : ℕ) (ps : List ℕ) → MayClaimIn (setting run h f) (moves_of h f) role ps → may_claim (setting run h f) (moves_of h f) role ps ≡ true
claim_of run h f role ps c =
    let S = setting run h f in
    let xs = moves_of h f in
    let size : c.first.0 ≡ S.most = (let a = c.first.1 in let b = c.first.2 in omega arith) in
    let is : ps ≡ take S.most (left_in S xs role) = c.first.3 ∙ ap (λ n. take n (left_in S xs role)) size in
    and (((ltb role 64 && held_in xs role) && (is_empty (out_in xs role) && not (is_some (pending_in S xs)))) && ltb 0 (length (left_in S xs role))) (same_list ps (take S.most (left_in S xs role)))
    (and ((ltb role 64 && held_in xs role) && (is_empty (out_in xs role) && not (is_some (pending_in S xs)))) (ltb 0 (length (left_in S xs role)))
    (and (ltb role 64 && held_in xs role) (is_empty (out_in xs role) && not (is_some (pending_in S xs)))
    (and (ltb role 64) (held_in xs role) (lt-ltb _ _ c.below) c.held)
    (and (is_empty (out_in xs role)) (not (is_some (pending_in S xs))) (is_empty_of _ c.idle) (no_some _ c.calm)))
    (lt-ltb _ _ c.some))
    (ap (λ ys. same_list ps ys) (sym is) ∙ same_self ps)

start_of : (h : List Event) → h ≡ [] → is_start h ≡ true
start_of h e = ap is_start e

permits_of : (run : Run) (h : List Event) (e : Event) → Permits run h e → permits run h e ≡ true
permits_of run h (event.Begin d) a = and (is_start h) (same_decision d (decision_after run [])) (start_of h a.0) (decision_is _ _ a.1)
permits_of run h (event.Seat backend f role) a =
    and ((none_due run h && none_open run h) && is_lowest run (may_seat run h) f) ((ltb role 64 && is_free run h f role) && all_below role (λ q. not (is_free run h f q)))
    (and (none_due run h && none_open run h) (is_lowest run (may_seat run h) f) (and (none_due run h) (none_open run h) (none_due_of run h a.0) (none_open_of run h a.1)) (lowest_of run (MaySeat run h) (may_seat run h) (seat_test run h) (test_seat run h) f a.2))
    (and (ltb role 64 && is_free run h f role) (all_below role (λ q. not (is_free run h f q)))
    (and (ltb role 64) (is_free run h f role) (lt-ltb _ _ a.3.1) a.3.2)
    (at_all role (λ q. not (is_free run h f q)) (λ q lt. not_false (is_free run h f q) (a.3.3 q lt))))
permits_of run h (event.Claim f role ps) a =
    and (none_due run h && is_one run f) (may_claim (setting run h f) (moves_of h f) role ps) (and (none_due run h) (is_one run f) (none_due_of run h a.0) (lt-ltb _ _ a.1)) (claim_of run h f role ps a.2)
permits_of run h (event.Settle f role count) a =
    let xs = moves_of h f in
    and (none_due run h && is_one run f) (may_settle xs role count) (and (none_due run h) (is_one run f) (none_due_of run h a.0) (lt-ltb _ _ a.1))
    (and (ltb role 64 && ltb 0 (length (out_in xs role))) (leb count (length (out_in xs role))) (and (ltb role 64) (ltb 0 (length (out_in xs role))) (lt-ltb _ _ a.2.0) (lt-ltb _ _ a.2.1)) (le-leb _ _ a.2.2))
permits_of run h (event.Divide f degree cut) a =
    let S = setting run h f in
    let xs = moves_of h f in
    and (others_calm run h f && is_one run f) (may_divide S xs degree cut) (and (others_calm run h f) (is_one run f) (others_calm_of run h f a.0) (lt-ltb _ _ a.1))
    (and (is_number (pending_in S xs) degree && is_idle xs) (eqb cut (S.cut S.positions (deposited xs))) (and (is_number (pending_in S xs) degree) (is_idle xs) (number_is _ _ a.2.0) (idle_of xs a.2.1)) (eq-eqb _ _ a.2.2))
permits_of run h (event.Leave f role) a =
    let xs = moves_of h f in
    and (others_calm run h f && is_one run f) (may_leave xs role) (and (others_calm run h f) (is_one run f) (others_calm_of run h f a.0) (lt-ltb _ _ a.1))
    (and (ltb role 64 && held_in xs role) (is_empty (out_in xs role)) (and (ltb role 64) (held_in xs role) (lt-ltb _ _ a.2.0) a.2.1) (is_empty_of _ a.2.2))
permits_of run h (event.Collect backend f) a =
    and (none_due run h) (is_lowest run (is_open run h) f) (none_due_of run h a.0) (lowest_of run (IsOpen run h) (is_open run h) (open_test run h) (test_open run h) f a.1)
permits_of run h (event.Uncollect f) a = and (none_due run h && is_one run f) (is_collecting h f) (and (none_due run h) (is_one run f) (none_due_of run h a.0) (lt-ltb _ _ a.1)) a.2
permits_of run h (event.Finish f d) a =
    and (none_due run h && is_one run f) (is_collecting h f && same_decision d (decision_after run (event.Finish f nothing ∷ h)))
    (and (none_due run h) (is_one run f) (none_due_of run h a.0) (lt-ltb _ _ a.1))
    (and (is_collecting h f) (same_decision d (decision_after run (event.Finish f nothing ∷ h))) a.2 (decision_is _ _ a.3))

pub passes : (run : Run) (h : List Event) → IsLegal run h → is_legal run h ≡ true
passes run [] legal = refl
passes run (e ∷ h) legal = and (permits run h e) (is_legal run h) (permits_of run h e legal.0) (passes run h legal.1)

pub refused : (run : Run) (h : List Event) → is_legal run h ≡ false → IsLegal run h → ⊥
refused run h f legal = let t = passes run h legal in absurd (cc)
