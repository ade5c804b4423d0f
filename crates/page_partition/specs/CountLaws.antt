use Rattle.std.proofs.Common.{◌≡◌, ℕ, zero, suc, ◌+◌, ◌<◌, ◌≤◌, Bool, true, false, cond, ltb, eqb, List, [], ◌∷◌, length, get_or, refl, ap, sym, ◌∙◌, subst, inl, inr, arith, filter}
use Rattle.std.proofs.lemmas.Bool.{cases_Bool, cases_lt, cases_eq, eq-eqb, ne_eqb, lt-ltb, le-ltb}
use Rattle.page_partition.specs.declared.table.Mark.{Mark}
use Rattle.page_partition.specs.declared.table.Mark.TheVariants.{Left, Out, Deposited}
use Rattle.page_partition.specs.Scan.{is_left, is_out, is_deposited, places_from, places, left_of, out_of, IsNamed, AllNamed}
use Rattle.page_partition.specs.Counts.{count_of, has, numbers_from, sum_below, IsMadeUp}

-- a number stands in a list where it stands there at least once
pub has_count : (p : ℕ) (xs : List ℕ) → has p xs ≡ ltb 0 (count_of p xs)
has_count p [] = refl
has_count p (q ∷ xs) =
    elim (cases_Bool (eqb q p)) [
      | inl e ↦ let t : ltb 0 (1 + count_of p xs) ≡ true = lt-ltb 0 (1 + count_of p xs) (omega arith) in simp (e, t)
      | inr e ↦ let z : 0 + count_of p xs ≡ count_of p xs = omega arith in simp (e, z) (has_count p xs)
    ]

pub count_before : (t : Mark → Bool) (p q : ℕ) (ms : List Mark) → p < q → count_of p (places_from q t ms) ≡ 0
count_before t p q [] h = refl
count_before t p q (x ∷ xs) h =
    let ih = count_before t p (suc q) xs (omega arith) in
    let f : eqb q p ≡ false = ne_eqb q p (λ e. absurd (omega arith)) in
    elim (cases_Bool (t x)) [ inl e ↦ simp (e, f) (omega arith) | inr e ↦ simp e ih ]

pub count_past : (t : Mark → Bool) (p q : ℕ) (ms : List Mark) → q + length ms ≤ p → count_of p (places_from q t ms) ≡ 0
count_past t p q [] h = refl
count_past t p q (x ∷ xs) h =
    let ih = count_past t p (suc q) xs (omega arith) in
    let f : eqb q p ≡ false = ne_eqb q p (λ e. absurd (omega arith)) in
    elim (cases_Bool (t x)) [ inl e ↦ simp (e, f) (omega arith) | inr e ↦ simp e ih ]

-- a position of the list stands among those that pass exactly where its mark passes
pub count_at : (t : Mark → Bool) (k q : ℕ) (ms : List Mark) (d : Mark) → k < length ms → count_of (q + k) (places_from q t ms) ≡ cond (t (get_or ms k d)) 1 0
count_at t k q [] d h = absurd (omega arith)
count_at t zero q (x ∷ xs) d h =
    let z : q + 0 ≡ q = omega arith in
    let g : eqb q q ≡ true = eq-eqb q q refl in
    let none = count_before t q (suc q) xs (omega arith) in
    rw z (elim (cases_Bool (t x)) [ inl e ↦ simp (e, g, none) | inr e ↦ simp e none ])
count_at t (suc k) q (x ∷ xs) d h =
    let z : q + suc k ≡ suc q + k = omega arith in
    let f : eqb q (suc q + k) ≡ false = ne_eqb q (suc q + k) (λ e. absurd (omega arith)) in
    let ih = count_at t k (suc q) xs d (omega arith) in
    rw z (elim (cases_Bool (t x)) [ inl e ↦ simp (e, f) (let y : 0 + count_of (suc q + k) (places_from (suc q) t xs) ≡ count_of (suc q + k) (places_from (suc q) t xs) = omega arith in y ∙ ih) | inr e ↦ simp e ih ])

pub has_at : (t : Mark → Bool) (p : ℕ) (ms : List Mark) (d : Mark) → p < length ms → has p (places t ms) ≡ t (get_or ms p d)
has_at t p ms d h =
    let z : 0 + p ≡ p = omega arith in
    let c = count_at t p 0 ms d h in
    has_count p (places t ms) ∙ ap (λ n. ltb 0 (count_of n (places t ms))) (sym z) ∙ ap (ltb 0) c
    ∙ elim (t (get_or ms p d)) as (λ b. ltb 0 (cond b 1 0) ≡ b) [ true ↦ refl | false ↦ refl ]

pub has_past : (t : Mark → Bool) (p : ℕ) (ms : List Mark) → length ms ≤ p → has p (places t ms) ≡ false
has_past t p ms h = has_count p (places t ms) ∙ ap (ltb 0) (count_past t p 0 ms (omega arith))

-- sums
pub sum_below_same : (n : ℕ) (f g : ℕ → ℕ) → ((r : ℕ) → r < n → f r ≡ g r) → sum_below n f ≡ sum_below n g
unfolding sum_below
sum_below_same zero f g h = refl
sum_below_same (suc n) f g h = let ih = sum_below_same n f g (λ r l. h r (omega arith)) in let here = h n (omega arith) in omega arith

pub sum_below_none : (n : ℕ) (f : ℕ → ℕ) → ((r : ℕ) → r < n → f r ≡ 0) → sum_below n f ≡ 0
unfolding sum_below
sum_below_none zero f h = refl
sum_below_none (suc n) f h = let ih = sum_below_none n f (λ r l. h r (omega arith)) in let here = h n (omega arith) in omega arith

-- where one number alone counts
pub sum_below_one : (n q : ℕ) (f : ℕ → ℕ) → q < n → f q ≡ 1 → ((r : ℕ) → r < n → (r ≡ q → ⊥) → f r ≡ 0) → sum_below n f ≡ 1
unfolding sum_below
sum_below_one zero q f h one none = absurd (omega arith)
sum_below_one (suc n) q f h one none =
    elim (cases_eq n q) [
      | inl e ↦
          let here : f n ≡ 1 = subst (λ (k : ℕ). f k ≡ 1) (sym e) one in
          let rest = sum_below_none n f (λ r l. none r (omega arith) (λ i. absurd (omega arith))) in omega arith
      | inr ne ↦ let here = none n (omega arith) ne in let ih = sum_below_one n q f (omega arith) one (λ r l. none r (omega arith)) in omega arith
    ]

pub named_at : (ms : List Mark) (q : ℕ) (d : Mark) → AllNamed ms → q < length ms → IsNamed (get_or ms q d)
named_at [] q d a h = absurd (omega arith)
named_at (x ∷ xs) zero d a h = a.0
named_at (x ∷ xs) (suc q) d a h = named_at xs q d a.1 (omega arith)

-- one mark stands once among deposited, out and left
one_mark : (m : Mark) → IsNamed m → cond (is_deposited m) 1 0 + sum_below 64 (λ r. cond (is_out r m) 1 0) + sum_below 64 (λ r. cond (is_left r m) 1 0) ≡ 1
one_mark (Left q) h =
    let l = sum_below_one 64 q (λ r. cond (eqb q r) 1 0) h (let t : eqb q q ≡ true = eq-eqb q q refl in rw t) (λ r b ne. let f : eqb q r ≡ false = ne_eqb q r (λ e. ne (sym e)) in rw f) in
    let o = sum_below_none 64 (λ r. 0) (λ r b. refl) in omega arith
one_mark (Out q) h =
    let o = sum_below_one 64 q (λ r. cond (eqb q r) 1 0) h (let t : eqb q q ≡ true = eq-eqb q q refl in rw t) (λ r b ne. let f : eqb q r ≡ false = ne_eqb q r (λ e. ne (sym e)) in rw f) in
    let l = sum_below_none 64 (λ r. 0) (λ r b. refl) in omega arith
one_mark Deposited h = let o = sum_below_none 64 (λ r. 0) (λ r b. refl) in omega arith

pub made_up : (ms : List Mark) → AllNamed ms → IsMadeUp ms
made_up ms named p =
    elim (cases_lt p (length ms)) [
      | inl lt ↦
          let t : ltb p (length ms) ≡ true = lt-ltb p (length ms) lt in
          let m = get_or ms p Deposited in
          let z : 0 + p ≡ p = omega arith in
          let at : (u : Mark → Bool) → count_of p (places u ms) ≡ cond (u m) 1 0 = λ u. ap (λ n. count_of n (places u ms)) (sym z) ∙ count_at u p 0 ms Deposited lt in
          let d = at is_deposited in
          let o = sum_below_same 64 (λ r. count_of p (out_of ms r)) (λ r. cond (is_out r m) 1 0) (λ r b. at (is_out r)) in
          let l = sum_below_same 64 (λ r. count_of p (left_of ms r)) (λ r. cond (is_left r m) 1 0) (λ r b. at (is_left r)) in
          let one = one_mark m (named_at ms p Deposited named lt) in
          rw t (omega arith)
      | inr ge ↦
          let f : ltb p (length ms) ≡ false = le-ltb p (length ms) ge in
          let d = count_past is_deposited p 0 ms (omega arith) in
          let o = sum_below_none 64 (λ r. count_of p (out_of ms r)) (λ r b. count_past (is_out r) p 0 ms (omega arith)) in
          let l = sum_below_none 64 (λ r. count_of p (left_of ms r)) (λ r b. count_past (is_left r) p 0 ms (omega arith)) in
          rw f (omega arith)
    ]

-- the places that pass are the numbers that pass a test of numbers, where both tests agree
pub places_filter : (t : Mark → Bool) (u : ℕ → Bool) (q : ℕ) (ms : List Mark) → ((k : ℕ) → k < length ms → u (q + k) ≡ t (get_or ms k Deposited)) → filter u (numbers_from q (length ms)) ≡ places_from q t ms
places_filter t u q [] same = refl
places_filter t u q (x ∷ xs) same =
    let z : q + 0 ≡ q = omega arith in
    let here : u q ≡ t x = ap u (sym z) ∙ same 0 (omega arith) in
    let ih = places_filter t u (suc q) xs (λ k h. let y : suc q + k ≡ q + suc k = omega arith in ap u y ∙ same (suc k) (omega arith)) in
    elim (cases_Bool (t x)) [
      | inl e ↦ let v : u q ≡ true = here ∙ e in simp (e, v) (ap (λ ys. q ∷ ys) ih)
      | inr e ↦ let v : u q ≡ false = here ∙ e in simp (e, v) ih
    ]

-- which positions are deposited, told mark by mark
pub deposited_at : (xs : List ℕ) (ms : List Mark) → ((p : ℕ) → has p xs ≡ has p (places is_deposited ms)) → (p : ℕ) → p < length ms → has p xs ≡ is_deposited (get_or ms p Deposited)
deposited_at xs ms same p h = same p ∙ has_at is_deposited p ms Deposited h
