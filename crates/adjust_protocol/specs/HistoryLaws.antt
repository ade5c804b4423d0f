use Rattle.std.proofs.Common.{◌≡◌, ℕ, zero, suc, ◌+◌, ◌-◌, ◌<◌, ◌≤◌, Bool, true, false, not, ◌&&◌, ◌||◌, cond, eqb, ltb, List, [], ◌∷◌, ◌++◌, length, get_or, set, take, replicate, refl, ap, sym, ◌∙◌, subst, inl, inr, arith, Option, Some, None, unwrap_or, count_by}
use Rattle.std.proofs.lemmas.Bool.{cases_Bool, cases_lt, cases_eq, eqb-true, eq-eqb, ne_eqb, lt-ltb, le-ltb}
use Rattle.std.proofs.lemmas.List.{take_all, length-replicate, get_or-set_same, get_or-set_other, length-set}
use Rattle.std.proofs.lemmas.List.Sums.{count_by_more_no, count_by_more_yes}
use Rattle.page_partition.specs.declared.table.Mark.{Mark}
use Rattle.page_partition.specs.declared.table.Mark.TheVariants.{Left, Deposited}
use Rattle.page_partition.specs.Scan.{is_deposited, places_from, places, left_of, out_of, given_back, IsIdle}
use Rattle.page_partition.specs.StrideKept.{no_deposits, named_fresh, idle_fresh}
use Rattle.page_partition.specs.Counted.{places_few}
use Rattle.page_partition.specs.Counts.{count_of, sum_below}
use Rattle.page_partition.specs.CountLaws.{count_at, count_past, sum_below_same, made_up}
use Rattle.page_partition.specs.Owners.{AllOwned}
use Rattle.adjust_protocol.specs.Free.{is_below}
use Rattle.adjust_protocol.specs.Moves.{Rule, Running, Move, Seat, Claim, Settle, Divide, Leave, Collect, Uncollect, Ask, is_full, wanted, holders, is_held, is_free, IsDue, after, Allows, run, Legal, Makes}
use Rattle.adjust_protocol.specs.Steps.{IsRule}
use Rattle.adjust_protocol.specs.History.{Setting, last_claim, deposited, Once, out_in, held_in, holders_in, divides_in, degree_in, pending_in, wanted_in, left_in, is_free_in, IsIdleIn, IsDueIn, Allowed, IsLegal}
use Rattle.adjust_protocol.specs.Calls.{fresh, Call, Ran, then_events, then_calls, history_of, IsLawful}
use Rattle.adjust_protocol.specs.Told.{Divides, Told, marks_claim, marks_settle, marks_divide, are_deposited, last_is, full_told, left_told}

pub free_told : (S : Setting) (h : List Move) (s : Running) → Told S h s → (role : ℕ) → role < 64 → is_free_in S h role ≡ is_free s role
free_told S h s t role lt =
    let f : Bool → List ℕ → Option ℕ → Bool = λ b left o. not b && (ltb 0 (length left) || is_below o role) in
    ap (λ b. f b (left_in S h role) (pending_in S h)) (t.held role lt)
    ∙ ap (λ left. f (is_held s role) left (pending_in S h)) (left_told S h s.scan.marks t.marks role)
    ∙ ap (λ o. f (is_held s role) (left_of s.scan.marks role) o) t.pending

count_taken : (xs : List Bool) (n : ℕ) → n ≤ length xs → sum_below n (λ r. cond (get_or xs r false) 1 0) ≡ count_by (λ b. b) (take n xs)
unfolding sum_below
count_taken xs zero h = refl
count_taken xs (suc n) h =
    let ih = count_taken xs n (omega arith) in
    let z : n + 1 ≡ suc n = omega arith in
    let lt : n < length xs = omega arith in
    elim (cases_Bool (get_or xs n false)) [
      | inl e ↦ let more = count_by_more_yes (λ b. b) xs n false lt e in simp e (subst (λ (k : ℕ). sum_below n (λ r. cond (get_or xs r false) 1 0) + 1 ≡ count_by (λ b. b) (take k xs)) z (ap (λ m. m + 1) ih ∙ sym more))
      | inr e ↦ let more = count_by_more_no (λ b. b) xs n false lt e in simp e (subst (λ (k : ℕ). sum_below n (λ r. cond (get_or xs r false) 1 0) + 0 ≡ count_by (λ b. b) (take k xs)) z (let y : sum_below n (λ r. cond (get_or xs r false) 1 0) + 0 ≡ sum_below n (λ r. cond (get_or xs r false) 1 0) = omega arith in y ∙ ih ∙ sym more))
    ]

pub holders_told : (S : Setting) (h : List Move) (s : Running) → Told S h s → holders_in h ≡ holders s
holders_told S h s t =
    sum_below_same 64 (λ r. cond (held_in h r) 1 0) (λ r. cond (get_or s.held r false) 1 0) (λ r lt. ap (λ b. cond {A = ℕ} b 1 0) (t.held r lt))
    ∙ count_taken s.held 64 (let e = t.roles in omega arith) ∙ ap (count_by (λ b. b)) (take_all 64 s.held (let e = t.roles in omega arith))

idle_told : (S : Setting) (h : List Move) (s : Running) → Told S h s → IsIdle s.scan.marks → IsIdleIn h
idle_told S h s t idle r lt = t.marks.outs r lt ∙ idle r lt

pub calm_told : (S : Setting) (h : List Move) (s : Running) → Told S h s → (IsDue s → ⊥) → IsDueIn S h → ⊥
calm_told S h s t calm due = calm (λ e. due.0 (t.pending ∙ e), λ r lt. sym (t.marks.outs r lt) ∙ due.1 r lt)

pub wanted_told : (S : Setting) (h : List Move) (s : Running) → Told S h s → wanted_in S h ≡ wanted s
wanted_told S h s t = ap (λ o. unwrap_or o (degree_in S h)) t.pending ∙ ap (λ n. unwrap_or s.asked n) t.degree

-- what is allowed in a state is allowed after a history that tells it
allowed_told : (rule : Rule) (S : Setting) → Divides rule S → (batch : ℕ) → S.least ≤ batch → batch ≤ S.most → (h : List Move) (s : Running) → Told S h s → (m : Move) → Allows rule batch s m → Allowed S h m
allowed_told rule S own batch low high h s t (Seat role) a = (
  calm_told S h s t a.0,
  a.1.0,
  free_told S h s t role a.1.0 ∙ a.1.1,
  (λ q lt. free_told S h s t q (let b = a.1.0 in omega arith) ∙ a.1.2 q lt),
  (let e = holders_told S h s t in let w = wanted_told S h s t in let b = a.2 in omega arith),
)
allowed_told rule S own batch low high h s t (Claim role ps) a = record {
  below = a.below;
  held = t.held role a.below ∙ a.held;
  idle = t.marks.outs role a.below ∙ a.idle;
  calm = t.pending ∙ a.calm;
  some = subst (λ (xs : List ℕ). 0 < length xs) (sym (left_told S h s.scan.marks t.marks role)) a.some;
  first = (batch, low, high, a.first ∙ ap (take batch) (sym (left_told S h s.scan.marks t.marks role)));
}
allowed_told rule S own batch low high h s t (Settle role count) a =
    (a.0, subst (λ (xs : List ℕ). 0 < length xs) (sym (t.marks.outs role a.0)) a.1, subst (λ (xs : List ℕ). count ≤ length xs) (sym (t.marks.outs role a.0)) a.2)
allowed_told rule S own batch low high h s t (Divide degree cut) a =
    (t.pending ∙ a.0, idle_told S h s t a.1, a.2 ∙ sym (own.cut_is (deposited h) s.scan.marks t.marks.size (are_deposited (deposited h) s.scan.marks t.marks.counts)))
allowed_told rule S own batch low high h s t (Leave role) a = (a.0, t.held role a.0 ∙ a.1, t.marks.outs role a.0 ∙ a.2)
allowed_told rule S own batch low high h s t Collect a =
    (calm_told S h s t a.0, full_told S (deposited h) s.scan.marks t.marks.number t.marks.size ∙ a.1, t.collecting ∙ a.2)
allowed_told rule S own batch low high h s t Uncollect a = (calm_told S h s t a.0, t.collecting ∙ a.1)
allowed_told rule S own batch low high h s t (Ask degree) a = (calm_told S h s t a.0, a.1, a.2)

held_after : (h : List Move) (held : List Bool) (role : ℕ) (b : Bool) → length held ≡ 64 → role < 64 → ((q : ℕ) → q < 64 → held_in h q ≡ get_or held q false) → (q : ℕ) → q < 64 → cond (eqb role q) b (held_in h q) ≡ get_or (set held role b) q false
held_after h held role b roles lt same q lq =
    elim (cases_eq role q) [
      | inl e ↦
          let here : eqb role q ≡ true = eq-eqb role q e in
          let within : role < length held = omega arith in
          rw here (sym (get_or-set_same held role b false within) ∙ ap (λ k. get_or (set held role b) k false) e)
      | inr ne ↦
          let f : eqb role q ≡ false = ne_eqb role q ne in
          rw f (same q lq ∙ sym (get_or-set_other held role q b false (λ e. ne (sym e))))
    ]

none_or : (b : Bool) (o : Option ℕ) (n : ℕ) → cond b None o ≡ Some n → o ≡ Some n
none_or true o n e = absurd (cc)
none_or false o n e = e

asked_range : (b : Bool) (o : Option ℕ) (degree n : ℕ) → 1 ≤ degree → degree ≤ 64 → ((k : ℕ) → o ≡ Some k → (1 ≤ k) × (k ≤ 64)) → cond b o (Some degree) ≡ Some n → (1 ≤ n) × (n ≤ 64)
asked_range true o degree n low high range e = range n e
asked_range false o degree n low high range e = let same : degree ≡ n = cc in (omega arith, omega arith)

-- and the history with the event tells the state after it
told_after : (rule : Rule) (S : Setting) → IsRule rule → Divides rule S → (batch : ℕ) (h : List Move) (s : Running) → Told S h s → (m : Move) → Allows rule batch s m → Told S (m ∷ h) (after rule s m)
told_after rule S laws own batch h s t (Seat role) a = record {
  marks = t.marks;
  roles = length-set s.held role true ∙ t.roles;
  held = held_after h s.held role true t.roles a.1.0 t.held;
  degree = t.degree;
  pending = t.pending;
  range = t.range;
  collecting = t.collecting;
}
told_after rule S laws own batch h s t (Claim role ps) a = record {
  marks = marks_claim S (deposited h) (out_in h) (divides_in h) s.scan.marks batch role ps a.below a.idle a.first t.marks;
  roles = t.roles;
  held = t.held;
  degree = t.degree;
  pending = t.pending;
  range = t.range;
  collecting = t.collecting;
}
told_after rule S laws own batch h s t (Settle role count) a =
    let last = last_is h role (out_of s.scan.marks role) (t.marks.outs role a.0) a.1 in
    let marks = marks_settle S (deposited h) (out_in h) (divides_in h) s.scan.marks role count (last_claim h role) a.0 a.2 last t.marks in
    let ms = given_back role count s.scan.marks in
    let full = full_told S (deposited h ++ take count (last_claim h role)) ms marks.number marks.size in
    record {
      marks = marks;
      roles = t.roles;
      held = t.held;
      degree = t.degree;
      pending = ap (λ b. cond b None (pending_in S h)) full ∙ ap (λ o. cond (is_full ms) None o) t.pending;
      range = λ n e. t.range n (none_or (is_full ms) s.asked n e);
      collecting = t.collecting;
    }
told_after rule S laws own batch h s t (Divide degree cut) a =
    let range = t.range degree a.0 in
    record {
      marks = marks_divide rule S laws own (deposited h) (out_in h) (divides_in h) s.scan.marks degree range.0 range.1 a.1 t.marks;
      roles = t.roles;
      held = t.held;
      degree = refl;
      pending = refl;
      range = λ n e. absurd (cc);
      collecting = t.collecting;
    }
told_after rule S laws own batch h s t (Leave role) a = record {
  marks = t.marks;
  roles = length-set s.held role false ∙ t.roles;
  held = held_after h s.held role false t.roles a.0 t.held;
  degree = t.degree;
  pending = t.pending;
  range = t.range;
  collecting = t.collecting;
}
told_after rule S laws own batch h s t Collect a = record {
  marks = t.marks;
  roles = t.roles;
  held = t.held;
  degree = t.degree;
  pending = t.pending;
  range = t.range;
  collecting = refl;
}
told_after rule S laws own batch h s t Uncollect a = record {
  marks = t.marks;
  roles = t.roles;
  held = t.held;
  degree = t.degree;
  pending = t.pending;
  range = t.range;
  collecting = refl;
}
told_after rule S laws own batch h s t (Ask degree) a =
    let f : Bool → Option ℕ → ℕ → Option ℕ = λ b o n. cond (b || eqb degree (unwrap_or o n)) o (Some degree) in
    record {
      marks = t.marks;
      roles = t.roles;
      held = t.held;
      degree = t.degree;
      pending = ap (λ b. f b (pending_in S h) (degree_in S h)) (full_told S (deposited h) s.scan.marks t.marks.number t.marks.size)
          ∙ ap (λ o. f (is_full s.scan.marks) o (degree_in S h)) t.pending ∙ ap (λ n. f (is_full s.scan.marks) s.asked n) t.degree;
      range = λ n e. asked_range (is_full s.scan.marks || eqb degree (wanted s)) s.asked degree n a.1 a.2 t.range e;
      collecting = t.collecting;
    }

nothing_held : (n r : ℕ) → false ≡ get_or (replicate n false) r false
nothing_held zero r = refl
nothing_held (suc n) zero = refl
nothing_held (suc n) (suc r) = nothing_held n r

-- the empty history tells the state of a board that has just begun
pub told_start : (rule : Rule) (S : Setting) (room : ℕ) → IsRule rule → AllOwned (S.owns S.positions S.degree []) 0 (rule.redivided S.degree (replicate S.positions (Left 0))) → 1 ≤ S.degree → S.degree ≤ 64
    → Told S [] (fresh rule S.positions S.degree room)
told_start rule S room laws owned low high =
    let start = replicate S.positions (Left 0) in
    let none : places is_deposited (rule.redivided S.degree start) ≡ [] = laws.deposits_kept S.degree start ∙ no_deposits 0 S.positions in
    record {
      marks = record {
        size = laws.positions_kept S.degree start ∙ length-replicate S.positions (Left 0);
        named = laws.named S.degree start low high (named_fresh S.positions);
        counts = λ p. sym (ap (count_of p) none);
        number = sym (ap length none);
        outs = λ r lt. sym (laws.none_out S.degree r start (idle_fresh r 0 S.positions));
        owned = owned;
      };
      roles = length-replicate 64 false;
      held = λ r lt. nothing_held 64 r;
      degree = refl;
      pending = refl;
      range = λ n e. absurd (cc);
      collecting = refl;
    }

-- a legal history that tells the state
pub record Stands (S : Setting) (h : List Move) (s : Running) : Type 0 where
  pub legal : IsLegal S h
  pub told : Told S h s

stands_events : (rule : Rule) (S : Setting) → IsRule rule → Divides rule S → (batch : ℕ) → S.least ≤ batch → batch ≤ S.most → (events h : List Move) (s : Running) → Legal rule batch s events → Stands S h s → Stands S (then_events h events) (run rule s events)
stands_events rule S laws own batch low high [] h s legal st = st
stands_events rule S laws own batch low high (e ∷ events) h s legal st =
    stands_events rule S laws own batch low high events (e ∷ h) (after rule s e) legal.1
    (record { legal = (allowed_told rule S own batch low high h s st.told e legal.0, st.legal); told = told_after rule S laws own batch h s st.told e legal.0 })

pub stands_makes : (rule : Rule) (S : Setting) → IsRule rule → Divides rule S → (batch : ℕ) → S.least ≤ batch → batch ≤ S.most → (events h : List Move) (s s' : Running) → Makes rule batch s events s' → Stands S h s → Stands S (then_events h events) s'
stands_makes rule S laws own batch low high events h s s' made st =
    subst (λ (z : Running). Stands S (then_events h events) z) (sym made.1) (stands_events rule S laws own batch low high events h s made.0 st)

stands_calls : (rule : Rule) (S : Setting) → IsRule rule → Divides rule S → (calls : List Call) (h : List Move) (s s' : Running) → Ran rule S s calls s' → Stands S h s → Stands S (then_calls h calls) s'
stands_calls rule S laws own [] h s s' ran st = subst (λ (z : Running). Stands S h z) (sym ran) st
stands_calls rule S laws own (c ∷ calls) h s s' ran st =
    stands_calls rule S laws own calls (then_events h c.events) ran.0 s' ran.4 (stands_makes rule S laws own c.most ran.1 ran.2 c.events h s ran.0 ran.3 st)

all_deposited : (ms : List Mark) (q k : ℕ) → length (places_from q is_deposited ms) ≡ length ms → k < length ms → is_deposited (get_or ms k Deposited) ≡ true
all_deposited [] q k full h = absurd (omega arith)
all_deposited (x ∷ xs) q zero full h =
    elim (cases_Bool (is_deposited x)) [
      | inl e ↦ e
      | inr e ↦ absurd (let full' = simp e at full in let few = places_few is_deposited (suc q) xs in omega arith)
    ]
all_deposited (x ∷ xs) q (suc k) full h =
    elim (cases_Bool (is_deposited x)) [
      | inl e ↦ let full' = simp e at full in all_deposited xs (suc q) k (omega arith) (omega arith)
      | inr e ↦ absurd (let full' = simp e at full in let few = places_few is_deposited (suc q) xs in omega arith)
    ]

once_full : (ms : List Mark) → is_full ms ≡ true → Once (places is_deposited ms) (length ms)
once_full ms full p =
    elim (cases_lt p (length ms)) [
      | inl lt ↦
          let t : ltb p (length ms) ≡ true = lt-ltb p (length ms) lt in
          let z : 0 + p ≡ p = omega arith in
          let d = all_deposited ms 0 p (eqb-true (length (places is_deposited ms)) (length ms) full) lt in
          rw t (ap (λ n. count_of n (places is_deposited ms)) (sym z) ∙ count_at is_deposited p 0 ms Deposited lt ∙ ap (λ b. cond {A = ℕ} b 1 0) d)
      | inr ge ↦ let f : ltb p (length ms) ≡ false = le-ltb p (length ms) ge in rw f (count_past is_deposited p 0 ms (omega arith))
    ]

pub lawful : (S : Setting) (h : List Move) (s : Running) → Stands S h s → IsLawful S h s
lawful S h s st =
    let ms = s.scan.marks in
    let t = st.told.marks in
    record {
      legal = st.legal;
      made_up = λ p.
          let m = made_up ms t.named p in
          let d = t.counts p in
          let o = sum_below_same 64 (λ r. count_of p (out_in h r)) (λ r. count_of p (out_of ms r)) (λ r lt. ap (count_of p) (t.outs r lt)) in
          let l = sum_below_same 64 (λ r. count_of p (left_in S h r)) (λ r. count_of p (left_of ms r)) (λ r lt. ap (count_of p) (left_told S h ms t r)) in
          let n : cond {A = ℕ} (ltb p (length ms)) 1 0 ≡ cond (ltb p S.positions) 1 0 = ap (λ k. cond {A = ℕ} (ltb p k) 1 0) t.size in
          omega arith;
      once = λ full p. t.counts p ∙ once_full ms full p ∙ ap (λ k. cond {A = ℕ} (ltb p k) 1 0) t.size;
    }

-- for every list of calls: the history is legal, makes up the scan, and deposits each position once
pub lawful_calls : (rule : Rule) (S : Setting) (room : ℕ) → IsRule rule → Divides rule S → AllOwned (S.owns S.positions S.degree []) 0 (rule.redivided S.degree (replicate S.positions (Left 0))) → 1 ≤ S.degree → S.degree ≤ 64
    → (calls : List Call) (s : Running) → Ran rule S (fresh rule S.positions S.degree room) calls s → IsLawful S (history_of calls) s
lawful_calls rule S room laws own owned low high calls s ran =
    lawful S (history_of calls) s (stands_calls rule S laws own calls [] (fresh rule S.positions S.degree room) s ran (record { legal = tt; told = told_start rule S room laws owned low high }))

-- a begin of a fresh board gives a fresh board
pub began_fresh : (rule : Rule) → IsRule rule → (positions from degree room : ℕ) (s : Running) → s ≡ fresh rule positions from room
    → record s { scan = record { marks = rule.redivided degree (replicate (length s.scan.marks) (Left 0)); degree = degree; room = s.scan.room - 1 } } ≡ fresh rule positions degree (room - 1)
began_fresh rule laws positions from degree room s e =
    let began : Running → Running = λ z. record z { scan = record { marks = rule.redivided degree (replicate (length z.scan.marks) (Left 0)); degree = degree; room = z.scan.room - 1 } } in
    let size : length (rule.redivided from (replicate positions (Left 0))) ≡ positions = laws.positions_kept from (replicate positions (Left 0)) ∙ length-replicate positions (Left 0) in
    ap began e ∙ ap (λ (n : ℕ). record (fresh rule positions degree (room - 1)) { scan = record { marks = rule.redivided degree (replicate n (Left 0)); degree = degree; room = room - 1 } }) size
