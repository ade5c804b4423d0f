use Rattle.std.proofs.Common.{◌≡◌, ℕ, zero, suc, ◌+◌, ◌<◌, ◌≤◌, Bool, true, false, not, ◌&&◌, cond, eqb, ltb, List, [], ◌∷◌, ◌++◌, length, get_or, take, filter, refl, ap, sym, ◌∙◌, subst, inl, inr, ◌⊎◌, arith, Some}
use Rattle.std.proofs.lemmas.Bool.{cases_Bool, cases_eq, eqb-true, eq-eqb, ne_eqb, false≢true, or_left, or_right, or_from, and_right}
use Rattle.std.proofs.lemmas.List.{length-take, length-append}
use Rattle.page_partition.specs.declared.table.Mark.{Mark}
use Rattle.page_partition.specs.declared.table.Mark.TheVariants.{Left, Out, Deposited}
use Rattle.page_partition.specs.Scan.{is_left, is_out, is_deposited, places_from, places, left_of, out_of, mark_first, mark_all, given_back, IsNamed, AllNamed, IsIdle}
use Rattle.page_partition.specs.Places.{places-mark_first_other, places-mark_first_new, length-mark_first}
use Rattle.page_partition.specs.Marks.{Apart, left-out, out-out, length-mark_all, places-mark_all_same, places-mark_all_other, AllNamed-mark_first, AllNamed-mark_all}
use Rattle.page_partition.specs.Counts.{count_of, has, numbers_from}
use Rattle.page_partition.specs.CountLaws.{has_count, has_at, named_at, places_filter, deposited_at}
use Rattle.page_partition.specs.Owners.{Divided, IsOwned, AllOwned, AreDeposited}
use Rattle.adjust_protocol.specs.Moves.{Rule, Running, Move, Seat, Claim, Settle, Divide, Leave, Collect, Uncollect, Ask, is_full, is_held}
use Rattle.adjust_protocol.specs.Steps.{IsRule, left-deposited, out-deposited, deposited-given_back, mark_first_taken}
use Rattle.adjust_protocol.specs.History.{Setting, last_claim, deposited, out_in, held_in, divides_in, owns_in, degree_in, pending_in, is_collecting_in, is_out_below, left_in}

-- a rule divides as a setting says
pub record Divides (rule : Rule) (S : Setting) : Type 0 where
  pub divided : (to : ℕ) (divides : List Divided) (xs : List ℕ) (ms : List Mark) → 1 ≤ to → length ms ≡ S.positions → AreDeposited xs ms
      → AllOwned (S.owns S.positions S.degree divides) 0 ms → AllOwned (S.owns S.positions S.degree (record { degree = to; deposited = xs } ∷ divides)) 0 (rule.redivided to ms)
  pub cut_is : (xs : List ℕ) (ms : List Mark) → length ms ≡ S.positions → AreDeposited xs ms → S.cut S.positions xs ≡ rule.cut ms

-- the marks are those that a history tells
pub record ToldMarks (S : Setting) (xs : List ℕ) (out : ℕ → List ℕ) (divides : List Divided) (ms : List Mark) : Type 0 where
  pub size : length ms ≡ S.positions
  pub named : AllNamed ms
  pub counts : (p : ℕ) → count_of p xs ≡ count_of p (places is_deposited ms)
  pub number : length xs ≡ length (places is_deposited ms)
  pub outs : (role : ℕ) → role < 64 → out role ≡ out_of ms role
  pub owned : AllOwned (S.owns S.positions S.degree divides) 0 ms

-- and so is the whole state
pub record Told (S : Setting) (h : List Move) (s : Running) : Type 0 where
  pub marks : ToldMarks S (deposited h) (out_in h) (divides_in h) s.scan.marks
  pub roles : length s.held ≡ 64
  pub held : (role : ℕ) → role < 64 → held_in h role ≡ is_held s role
  pub degree : degree_in S h ≡ s.scan.degree
  pub pending : pending_in S h ≡ s.asked
  pub range : (n : ℕ) → s.asked ≡ Some n → (1 ≤ n) × (n ≤ 64)
  pub collecting : is_collecting_in h ≡ s.collecting

-- owners stay where a role's marks become another kind of its own
owned-mark_first : (owns : ℕ → ℕ → Bool) (t : Mark → Bool) (m : Mark) → ((p : ℕ) (x : Mark) → t x ≡ true → IsOwned owns p x → IsOwned owns p m) → (k p : ℕ) (ms : List Mark) → AllOwned owns p ms → AllOwned owns p (mark_first t k m ms)
owned-mark_first owns t m same zero p ms o = o
owned-mark_first owns t m same (suc k) p [] o = o
owned-mark_first owns t m same (suc k) p (x ∷ xs) o =
    elim (cases_Bool (t x)) [
      | inl e ↦ simp e (same p x e o.0, owned-mark_first owns t m same k (suc p) xs o.1)
      | inr e ↦ simp e (o.0, owned-mark_first owns t m same (suc k) (suc p) xs o.1)
    ]

owned-mark_all : (owns : ℕ → ℕ → Bool) (t : Mark → Bool) (m : Mark) → ((p : ℕ) (x : Mark) → t x ≡ true → IsOwned owns p x → IsOwned owns p m) → (p : ℕ) (ms : List Mark) → AllOwned owns p ms → AllOwned owns p (mark_all t m ms)
owned-mark_all owns t m same p [] o = o
owned-mark_all owns t m same p (x ∷ xs) o =
    elim (cases_Bool (t x)) [
      | inl e ↦ simp e (same p x e o.0, owned-mark_all owns t m same (suc p) xs o.1)
      | inr e ↦ simp e (o.0, owned-mark_all owns t m same (suc p) xs o.1)
    ]

left_to_out : (owns : ℕ → ℕ → Bool) (r p : ℕ) (x : Mark) → is_left r x ≡ true → IsOwned owns p x → IsOwned owns p (Out r)
left_to_out owns r p (Left q) e o = λ role. o role ∙ ap (λ k. eqb k role) (eqb-true q r e)
left_to_out owns r p (Out q) e o = absurd (false≢true e)
left_to_out owns r p Deposited e o = absurd (false≢true e)

out_to_left : (owns : ℕ → ℕ → Bool) (r p : ℕ) (x : Mark) → is_out r x ≡ true → IsOwned owns p x → IsOwned owns p (Left r)
out_to_left owns r p (Left q) e o = absurd (false≢true e)
out_to_left owns r p (Out q) e o = λ role. o role ∙ ap (λ k. eqb k role) (eqb-true q r e)
out_to_left owns r p Deposited e o = absurd (false≢true e)

owned_at : (owns : ℕ → ℕ → Bool) (k q : ℕ) (ms : List Mark) (d : Mark) → k < length ms → AllOwned owns q ms → IsOwned owns (q + k) (get_or ms k d)
owned_at owns k q [] d h o = absurd (omega arith)
owned_at owns zero q (x ∷ xs) d h o = let z : q ≡ q + 0 = omega arith in subst (λ (n : ℕ). IsOwned owns n x) z o.0
owned_at owns (suc k) q (x ∷ xs) d h o = let z : suc q + k ≡ q + suc k = omega arith in subst (λ (n : ℕ). IsOwned owns n (get_or xs k d)) z (owned_at owns k (suc q) xs d (omega arith) o.1)

-- a claim
pub marks_claim : (S : Setting) (xs : List ℕ) (out : ℕ → List ℕ) (divides : List Divided) (ms : List Mark) (batch role : ℕ) (ps : List ℕ) → role < 64 → out_of ms role ≡ [] → ps ≡ take batch (left_of ms role) → ToldMarks S xs out divides ms
    → ToldMarks S xs (λ q. cond (eqb role q) ps (out q)) divides (mark_first (is_left role) (length ps) (Out role) ms)
marks_claim S xs out divides ms batch role ps lt idle first t =
    let ms' = mark_first (is_left role) (length ps) (Out role) ms in
    let same : places is_deposited ms' ≡ places is_deposited ms = places-mark_first_other (is_left role) is_deposited (Out role) refl (left-deposited role) (length ps) 0 ms in
    record {
      size = length-mark_first (is_left role) (Out role) (length ps) ms ∙ t.size;
      named = AllNamed-mark_first (is_left role) (Out role) lt (length ps) ms t.named;
      counts = λ p. t.counts p ∙ sym (ap (count_of p) same);
      number = t.number ∙ sym (ap length same);
      outs = λ q b. elim (cases_eq role q) [
        | inl e ↦
            let here : eqb role q ≡ true = eq-eqb role q e in
            let is : out_of ms' role ≡ ps = ap (λ n. out_of (mark_first (is_left role) n (Out role) ms) role) (ap length first) ∙ ap (λ zs. out_of zs role) (mark_first_taken (is_left role) (Out role) batch ms)
            ∙ places-mark_first_new (is_left role) (is_out role) (Out role) (eq-eqb role role refl) (left-out role role) batch 0 ms idle ∙ sym first in
            rw here (sym is ∙ ap (out_of ms') e)
        | inr ne ↦
            let f : eqb role q ≡ false = ne_eqb role q ne in
            rw f (t.outs q b ∙ sym (places-mark_first_other (is_left role) (is_out q) (Out role) f (left-out role q) (length ps) 0 ms))
      ];
      owned = owned-mark_first (S.owns S.positions S.degree divides) (is_left role) (Out role) (left_to_out (S.owns S.positions S.degree divides) role) (length ps) 0 ms t.owned;
    }

count_of-append : (p : ℕ) (xs ys : List ℕ) → count_of p (xs ++ ys) ≡ count_of p xs + count_of p ys
count_of-append p [] ys = omega arith
count_of-append p (x ∷ xs) ys = let ih = count_of-append p xs ys in omega arith

count_of-mark_first : (t : Mark → Bool) → Apart t is_deposited → (p k q : ℕ) (ms : List Mark) → count_of p (places_from q is_deposited (mark_first t k Deposited ms)) ≡ count_of p (places_from q is_deposited ms) + count_of p (take k (places_from q t ms))
count_of-mark_first t apart p zero q ms = omega arith
count_of-mark_first t apart p (suc k) q [] = omega arith
count_of-mark_first t apart p (suc k) q (x ∷ xs) =
    elim (cases_Bool (t x)) [
      | inl e ↦ let ih = count_of-mark_first t apart p k (suc q) xs in simp (e, apart x e) (omega arith)
      | inr e ↦
          let ih = count_of-mark_first t apart p (suc k) (suc q) xs in
          elim (cases_Bool (is_deposited x)) [ inl f ↦ simp (e, f) (omega arith) | inr f ↦ simp (e, f) ih ]
    ]

count_of-given_back : (p role n : ℕ) (ms : List Mark) → count_of p (places is_deposited (given_back role n ms)) ≡ count_of p (places is_deposited ms) + count_of p (take n (out_of ms role))
count_of-given_back p role n ms =
    ap (count_of p) (places-mark_all_other (is_out role) is_deposited (Left role) refl (out-deposited role) 0 (mark_first (is_out role) n Deposited ms))
    ∙ count_of-mark_first (is_out role) (out-deposited role) p n 0 ms

-- a settle
pub marks_settle : (S : Setting) (xs : List ℕ) (out : ℕ → List ℕ) (divides : List Divided) (ms : List Mark) (role count : ℕ) (last : List ℕ) → role < 64 → count ≤ length (out_of ms role) → last ≡ out_of ms role → ToldMarks S xs out divides ms
    → ToldMarks S (xs ++ take count last) (λ q. cond (eqb role q) [] (out q)) divides (given_back role count ms)
marks_settle S xs out divides ms role count last lt few is t =
    let owns = S.owns S.positions S.degree divides in
    record {
      size = length-mark_all (is_out role) (Left role) (mark_first (is_out role) count Deposited ms) ∙ length-mark_first (is_out role) Deposited count ms ∙ t.size;
      named = AllNamed-mark_all (is_out role) (Left role) lt (mark_first (is_out role) count Deposited ms) (AllNamed-mark_first (is_out role) Deposited tt count ms t.named);
      counts = λ p. count_of-append p xs (take count last) ∙ ap (λ n. n + count_of p (take count last)) (t.counts p) ∙ ap (λ ys. count_of p (places is_deposited ms) + count_of p (take count ys)) is ∙ sym (count_of-given_back p role count ms);
      number =
          let a = deposited-given_back role count ms few in
          let b = length-take count last in
          let e = ap length is in
          let j = length-append xs (take count last) in
          let n = t.number in
          omega arith;
      outs = λ q b. elim (cases_eq role q) [
        | inl e ↦
            let here : eqb role q ≡ true = eq-eqb role q e in
            rw here (sym (places-mark_all_same (is_out role) (Left role) refl 0 (mark_first (is_out role) count Deposited ms)) ∙ ap (out_of (given_back role count ms)) e)
        | inr ne ↦
            let f : eqb role q ≡ false = ne_eqb role q ne in
            let apart = out-out role q ne in
            rw f (t.outs q b ∙ sym (places-mark_all_other (is_out role) (is_out q) (Left role) refl apart 0 (mark_first (is_out role) count Deposited ms) ∙ places-mark_first_other (is_out role) (is_out q) Deposited refl apart count 0 ms))
      ];
      owned = owned-mark_all owns (is_out role) (Left role) (out_to_left owns role) 0 (mark_first (is_out role) count Deposited ms) (owned-mark_first owns (is_out role) Deposited (λ p x e o. tt) count 0 ms t.owned);
    }

pub are_deposited : (xs : List ℕ) (ms : List Mark) → ((p : ℕ) → count_of p xs ≡ count_of p (places is_deposited ms)) → AreDeposited xs ms
are_deposited xs ms counts p = has_count p xs ∙ ap (ltb 0) (counts p) ∙ sym (has_count p (places is_deposited ms))

-- a divide
pub marks_divide : (rule : Rule) (S : Setting) → IsRule rule → Divides rule S → (xs : List ℕ) (out : ℕ → List ℕ) (divides : List Divided) (ms : List Mark) (to : ℕ) → 1 ≤ to → to ≤ 64 → IsIdle ms → ToldMarks S xs out divides ms
    → ToldMarks S xs out (record { degree = to; deposited = xs } ∷ divides) (rule.redivided to ms)
marks_divide rule S laws own xs out divides ms to low high idle t = record {
  size = laws.positions_kept to ms ∙ t.size;
  named = laws.named to ms low high t.named;
  counts = λ p. t.counts p ∙ sym (ap (count_of p) (laws.deposits_kept to ms));
  number = t.number ∙ sym (ap length (laws.deposits_kept to ms));
  outs = λ q b. t.outs q b ∙ idle q b ∙ sym (laws.none_out to q ms (idle q b));
  owned = own.divided to divides xs ms low t.size (are_deposited xs ms t.counts) t.owned;
}

-- a batch out is the role's last claim
out_claim : (h : List Move) (role : ℕ) → (out_in h role ≡ last_claim h role) ⊎ (out_in h role ≡ [])
out_claim [] role = inl refl
out_claim (Claim r ps ∷ h) role = elim (cases_Bool (eqb r role)) [ inl e ↦ simp e (inl refl) | inr e ↦ simp e (out_claim h role) ]
out_claim (Settle r count ∷ h) role = elim (cases_Bool (eqb r role)) [ inl e ↦ simp e (inr refl) | inr e ↦ simp e (out_claim h role) ]
out_claim (Seat r ∷ h) role = out_claim h role
out_claim (Divide degree cut ∷ h) role = out_claim h role
out_claim (Leave r ∷ h) role = out_claim h role
out_claim (Collect ∷ h) role = out_claim h role
out_claim (Uncollect ∷ h) role = out_claim h role
out_claim (Ask degree ∷ h) role = out_claim h role

pub last_is : (h : List Move) (role : ℕ) (ps : List ℕ) → out_in h role ≡ ps → 0 < length ps → last_claim h role ≡ ps
last_is h role ps e some =
    elim (out_claim h role) [
      | inl same ↦ sym same ∙ e
      | inr none ↦ absurd (let z = ap length (sym e ∙ none) in omega arith)
    ]

-- fullness
pub full_told : (S : Setting) (xs : List ℕ) (ms : List Mark) → length xs ≡ length (places is_deposited ms) → length ms ≡ S.positions → eqb (length xs) S.positions ≡ is_full ms
full_told S xs ms number size = ap (λ n. eqb n S.positions) number ∙ ap (eqb (length (places is_deposited ms))) (sym size)

-- what is out
none_out_below : (n : ℕ) (h : List Move) (p : ℕ) → ((r : ℕ) → r < n → has p (out_in h r) ≡ false) → is_out_below n h p ≡ false
unfolding is_out_below
none_out_below zero h p none = refl
none_out_below (suc n) h p none = or_from (is_out_below n h p) (has p (out_in h n)) (none_out_below n h p (λ r b. none r (omega arith))) (none n (omega arith))

some_out_below : (n q : ℕ) (h : List Move) (p : ℕ) → q < n → has p (out_in h q) ≡ true → is_out_below n h p ≡ true
unfolding is_out_below
some_out_below zero q h p b e = absurd (omega arith)
some_out_below (suc n) q h p b e =
    elim (cases_eq q n) [
      | inl same ↦ or_right (is_out_below n h p) (has p (out_in h n)) (subst (λ (k : ℕ). has p (out_in h k) ≡ true) same e)
      | inr ne ↦ or_left (is_out_below n h p) (has p (out_in h n)) (some_out_below n q h p (omega arith) e)
    ]

left_at : (owns gone out : Bool) (e : Bool) → owns ≡ e → gone ≡ false → out ≡ false → ((owns && not gone) && not out) ≡ e
left_at owns gone out true o g u = simp (o, g, u)
left_at owns gone out false o g u = simp (o, g, u)

not_left : (owns gone out : Bool) → (gone ≡ true) ⊎ (out ≡ true) → ((owns && not gone) && not out) ≡ false
not_left true gone out (inl e) = simp e
not_left false gone out (inl e) = refl
not_left owns gone out (inr e) = and_right (owns && not gone) (not out) (ap not e)

-- what is left for a role by the history is what is marked so
pub left_told : (S : Setting) (h : List Move) (ms : List Mark) → ToldMarks S (deposited h) (out_in h) (divides_in h) ms → (role : ℕ) → left_in S h role ≡ left_of ms role
left_told S h ms t role =
    let test : ℕ → Bool = λ p. (owns_in S h role p && not (has p (deposited h))) && not (is_out_below 64 h p) in
    subst (λ (n : ℕ). filter test (numbers_from 0 n) ≡ left_of ms role) t.size
    (places_filter (is_left role) test 0 ms (λ k b. let z : k ≡ 0 + k = omega arith in subst (λ (n : ℕ). test n ≡ is_left role (get_or ms k Deposited)) z (at k b (get_or ms k Deposited) refl)))
  where
    out_at : (k : ℕ) → k < length ms → (m : Mark) → get_or ms k Deposited ≡ m → (r : ℕ) → r < 64 → has k (out_in h r) ≡ is_out r m
    out_at k b m e r lt = ap (has k) (t.outs r lt) ∙ has_at (is_out r) k ms Deposited b ∙ ap (is_out r) e

    gone_at : (k : ℕ) → k < length ms → (m : Mark) → get_or ms k Deposited ≡ m → has k (deposited h) ≡ is_deposited m
    gone_at k b m e = deposited_at (deposited h) ms (are_deposited (deposited h) ms t.counts) k b ∙ ap is_deposited e

    owner_at : (k : ℕ) → k < length ms → (m : Mark) → get_or ms k Deposited ≡ m → IsOwned (owns_in S h) k m
    owner_at k b m e = let z : 0 + k ≡ k = omega arith in subst (λ (n : ℕ). IsOwned (owns_in S h) n m) z (subst (λ (x : Mark). IsOwned (owns_in S h) (0 + k) x) e (owned_at (owns_in S h) k 0 ms Deposited b t.owned))

    at : (k : ℕ) → k < length ms → (m : Mark) → get_or ms k Deposited ≡ m → ((owns_in S h role k && not (has k (deposited h))) && not (is_out_below 64 h k)) ≡ is_left role m
    at k b (Left q) e = left_at (owns_in S h role k) (has k (deposited h)) (is_out_below 64 h k) (eqb q role) (owner_at k b (Left q) e role) (gone_at k b (Left q) e) (none_out_below 64 h k (λ r lt. out_at k b (Left q) e r lt))
    at k b (Out q) e =
        let named : q < 64 = subst (λ (x : Mark). IsNamed x) e (named_at ms k Deposited t.named b) in
        not_left (owns_in S h role k) (has k (deposited h)) (is_out_below 64 h k) (inr (some_out_below 64 q h k named (out_at k b (Out q) e q named ∙ eq-eqb q q refl)))
    at k b Deposited e = not_left (owns_in S h role k) (has k (deposited h)) (is_out_below 64 h k) (inl (gone_at k b Deposited e))
