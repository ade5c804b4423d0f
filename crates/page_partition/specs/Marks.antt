use Rattle.std.proofs.Common.{◌≡◌, ℕ, zero, suc, ◌+◌, ◌-◌, ◌<◌, ◌≤◌, Bool, true, false, cond, List, [], ◌∷◌, ◌++◌, length, get_or, take, drop, min, refl, ap, sym, ◌∙◌, inl, inr, arith}
use Rattle.std.proofs.lemmas.Bool.{cases_Bool, false≢true, cases_lt, eqb-true, ne_eqb}
use Rattle.std.proofs.lemmas.List.{take_all}
use native.Mathlib.Numerals.{unary_clauses}
use Rattle.page_partition.specs.declared.table.Mark.{Mark}
use Rattle.page_partition.specs.declared.table.Mark.TheVariants.{Left, Out, Deposited}
use Rattle.page_partition.specs.Places.{places_split, put-places, places-mark_first_same}
use Rattle.page_partition.specs.Scan.{is_left, is_out, places_from, places, out_of, mark_first, mark_all, given_back, put, IsNamed, AllNamed}

-- two tests that no mark passes both of
abbrev pub Apart : (Mark → Bool) → (Mark → Bool) → Type 0
Apart t u = (x : Mark) → t x ≡ true → u x ≡ false

pub left-out : (a b : ℕ) → Apart (is_left a) (is_out b)
left-out a b (Left r) e = refl
left-out a b (Out r) e = absurd (false≢true e)
left-out a b Deposited e = refl

pub out-left : (a b : ℕ) → Apart (is_out a) (is_left b)
out-left a b (Left r) e = absurd (false≢true e)
out-left a b (Out r) e = refl
out-left a b Deposited e = refl

pub left-left : (a b : ℕ) → (a ≡ b → ⊥) → Apart (is_left a) (is_left b)
left-left a b ne (Left r) e = ne_eqb r b (λ f. ne (sym (eqb-true r a e) ∙ f))
left-left a b ne (Out r) e = refl
left-left a b ne Deposited e = refl

pub out-out : (a b : ℕ) → (a ≡ b → ⊥) → Apart (is_out a) (is_out b)
out-out a b ne (Left r) e = refl
out-out a b ne (Out r) e = ne_eqb r b (λ f. ne (sym (eqb-true r a e) ∙ f))
out-out a b ne Deposited e = refl

pub take-mark_first : (t : Mark → Bool) (m : Mark) (n k : ℕ) (ms : List Mark) → take n (mark_first t k m ms) ≡ mark_first t k m (take n ms)
take-mark_first t m n zero ms = refl
take-mark_first t m zero (suc k) ms = refl
take-mark_first t m (suc n) (suc k) [] = refl
take-mark_first t m (suc n) (suc k) (x ∷ xs) =
    elim (cases_Bool (t x)) [
      | inl e ↦ simp e (ap (λ ys. m ∷ ys) (take-mark_first t m n k xs))
      | inr e ↦ simp e (ap (λ ys. x ∷ ys) (take-mark_first t m n (suc k) xs))
    ]

pub drop-mark_first : (t : Mark → Bool) (m : Mark) (n k p : ℕ) (ms : List Mark) → drop n (mark_first t k m ms) ≡ mark_first t (k - length (places_from p t (take n ms))) m (drop n ms)
drop-mark_first t m n zero p ms = let e : 0 - length (places_from p t (take n ms)) ≡ 0 = omega arith in rw e
drop-mark_first t m zero (suc k) p ms = let e : suc k - 0 ≡ suc k = omega arith in rw e
drop-mark_first t m (suc n) (suc k) p [] = let e : suc k - 0 ≡ suc k = omega arith in rw e
drop-mark_first t m (suc n) (suc k) p (x ∷ xs) =
    elim (cases_Bool (t x)) [
      | inl e ↦ simp (e, unary_clauses) (drop-mark_first t m n k (suc p) xs)
      | inr e ↦ simp e (drop-mark_first t m n (suc k) (suc p) xs)
    ]

pub mark_first_all : (t : Mark → Bool) (m : Mark) (k p : ℕ) (ms : List Mark) → length (places_from p t ms) ≤ k → mark_first t k m ms ≡ mark_all t m ms
mark_first_all t m zero p [] h = refl
mark_first_all t m zero p (x ∷ xs) h =
    elim (cases_Bool (t x)) [
      | inl e ↦ absurd (let h' = simp e at h in omega arith)
      | inr e ↦ let h' = simp e at h in simp e (ap (λ ys. x ∷ ys) (mark_first_all t m zero (suc p) xs h'))
    ]
mark_first_all t m (suc k) p [] h = refl
mark_first_all t m (suc k) p (x ∷ xs) h =
    elim (cases_Bool (t x)) [
      | inl e ↦ let h' = simp e at h in simp e (ap (λ ys. m ∷ ys) (mark_first_all t m k (suc p) xs (omega arith)))
      | inr e ↦ let h' = simp e at h in simp e (ap (λ ys. x ∷ ys) (mark_first_all t m (suc k) (suc p) xs h'))
    ]

pub mark_first_min : (t : Mark → Bool) (m : Mark) (k : ℕ) (ms : List Mark) → mark_first t (min k (length (places t ms))) m ms ≡ mark_first t k m ms
mark_first_min t m k ms =
    elim (cases_lt k (length (places t ms))) [
      | inl lt ↦ let e : min k (length (places t ms)) ≡ k = omega arith in rw e
      | inr ge ↦ let e : min k (length (places t ms)) ≡ length (places t ms) = omega arith in rw e (mark_first_all t m (length (places t ms)) 0 ms (omega arith) ∙ sym (mark_first_all t m k 0 ms ge))
    ]

pub AllNamed-mark_first : (t : Mark → Bool) (m : Mark) → IsNamed m → (k : ℕ) (ms : List Mark) → AllNamed ms → AllNamed (mark_first t k m ms)
AllNamed-mark_first t m h zero ms a = a
AllNamed-mark_first t m h (suc k) [] a = a
AllNamed-mark_first t m h (suc k) (x ∷ xs) a =
    elim (cases_Bool (t x)) [
      | inl e ↦ simp e (h, AllNamed-mark_first t m h k xs a.1)
      | inr e ↦ simp e (a.0, AllNamed-mark_first t m h (suc k) xs a.1)
    ]

pub AllNamed-mark_all : (t : Mark → Bool) (m : Mark) → IsNamed m → (ms : List Mark) → AllNamed ms → AllNamed (mark_all t m ms)
AllNamed-mark_all t m h [] a = a
AllNamed-mark_all t m h (x ∷ xs) a =
    elim (cases_Bool (t x)) [
      | inl e ↦ simp e (h, AllNamed-mark_all t m h xs a.1)
      | inr e ↦ simp e (a.0, AllNamed-mark_all t m h xs a.1)
    ]

pub length-mark_all : (t : Mark → Bool) (m : Mark) (ms : List Mark) → length (mark_all t m ms) ≡ length ms
length-mark_all t m [] = refl
length-mark_all t m (x ∷ xs) = ap suc (length-mark_all t m xs)

pub take-mark_all : (t : Mark → Bool) (m : Mark) (n : ℕ) (ms : List Mark) → take n (mark_all t m ms) ≡ mark_all t m (take n ms)
take-mark_all t m zero ms = refl
take-mark_all t m (suc n) [] = refl
take-mark_all t m (suc n) (x ∷ xs) = ap (λ ys. cond (t x) m x ∷ ys) (take-mark_all t m n xs)

pub drop-mark_all : (t : Mark → Bool) (m : Mark) (n : ℕ) (ms : List Mark) → drop n (mark_all t m ms) ≡ mark_all t m (drop n ms)
drop-mark_all t m zero ms = refl
drop-mark_all t m (suc n) [] = refl
drop-mark_all t m (suc n) (x ∷ xs) = drop-mark_all t m n xs

pub mark_all_none : (t : Mark → Bool) (m : Mark) (p : ℕ) (ms : List Mark) → places_from p t ms ≡ [] → mark_all t m ms ≡ ms
mark_all_none t m p [] h = refl
mark_all_none t m p (x ∷ xs) h =
    elim (cases_Bool (t x)) [
      | inl e ↦ absurd (let no = simp e at h in cc)
      | inr e ↦ simp e (ap (λ ys. x ∷ ys) (mark_all_none t m (suc p) xs (simp e at h)))
    ]

pub places-mark_all_same : (t : Mark → Bool) (m : Mark) → t m ≡ false → (p : ℕ) (ms : List Mark) → places_from p t (mark_all t m ms) ≡ []
places-mark_all_same t m h p [] = refl
places-mark_all_same t m h p (x ∷ xs) =
    elim (cases_Bool (t x)) [
      | inl e ↦ simp (e, h) (places-mark_all_same t m h (suc p) xs)
      | inr e ↦ simp e (places-mark_all_same t m h (suc p) xs)
    ]

pub places-mark_all_other : (t u : Mark → Bool) (m : Mark) → u m ≡ false → Apart t u → (p : ℕ) (ms : List Mark) → places_from p u (mark_all t m ms) ≡ places_from p u ms
places-mark_all_other t u m h apart p [] = refl
places-mark_all_other t u m h apart p (x ∷ xs) =
    elim (cases_Bool (t x)) [
      | inl e ↦ simp (e, h, apart x e) (places-mark_all_other t u m h apart (suc p) xs)
      | inr e ↦ simp e (elim (cases_Bool (u x)) [
        | inl f ↦ simp f (ap (λ ys. p ∷ ys) (places-mark_all_other t u m h apart (suc p) xs))
        | inr f ↦ simp f (places-mark_all_other t u m h apart (suc p) xs)
      ])
    ]

-- where no mark passed u before, those of t pass it now
pub places-mark_all_new : (t u : Mark → Bool) (m : Mark) → u m ≡ true → (p : ℕ) (ms : List Mark) → places_from p u ms ≡ [] → places_from p u (mark_all t m ms) ≡ places_from p t ms
places-mark_all_new t u m h p [] none = refl
places-mark_all_new t u m h p (x ∷ xs) none =
    elim (cases_Bool (u x)) [
      | inl f ↦ absurd (let no = simp f at none in cc)
      | inr f ↦ elim (cases_Bool (t x)) [
        | inl e ↦ simp (e, h) (ap (λ ys. p ∷ ys) (places-mark_all_new t u m h (suc p) xs (simp f at none)))
        | inr e ↦ simp (e, f) (places-mark_all_new t u m h (suc p) xs (simp f at none))
      ]
    ]

-- a position that passes is in the list
pub places_bound : (t : Mark → Bool) (p : ℕ) (ms : List Mark) (k d : ℕ) → k < length (places_from p t ms) → get_or (places_from p t ms) k d < p + length ms
places_bound t p [] k d h = absurd (omega arith)
places_bound t p (x ∷ xs) zero d h =
    elim (cases_Bool (t x)) [
      | inl e ↦ simp e (omega arith)
      | inr e ↦ let h' = simp e at h in simp e (let b = places_bound t (suc p) xs zero d h' in omega arith)
    ]
places_bound t p (x ∷ xs) (suc k) d h =
    elim (cases_Bool (t x)) [
      | inl e ↦ let h' = simp e at h in simp e (let b = places_bound t (suc p) xs k d (omega arith) in omega arith)
      | inr e ↦ let h' = simp e at h in simp e (let b = places_bound t (suc p) xs (suc k) d h' in omega arith)
    ]

-- how many pass after a change
pub length-places-mark_all : (t u : Mark → Bool) (m : Mark) → u m ≡ true → Apart t u → (p : ℕ) (ms : List Mark) → length (places_from p u (mark_all t m ms)) ≡ length (places_from p u ms) + length (places_from p t ms)
length-places-mark_all t u m h apart p [] = refl
length-places-mark_all t u m h apart p (x ∷ xs) =
    let ih = length-places-mark_all t u m h apart (suc p) xs in
    elim (cases_Bool (t x)) [
      | inl e ↦ simp (e, h, apart x e) (omega arith)
      | inr e ↦ elim (cases_Bool (u x)) [
        | inl f ↦ simp (e, f) (omega arith)
        | inr f ↦ simp (e, f) (omega arith)
      ]
    ]

-- no mark passes both
pub length-places_both : (t u : Mark → Bool) → Apart t u → (p : ℕ) (ms : List Mark) → length (places_from p t ms) + length (places_from p u ms) ≤ length ms
length-places_both t u apart p [] = omega arith
length-places_both t u apart p (x ∷ xs) =
    let ih = length-places_both t u apart (suc p) xs in
    elim (cases_Bool (t x)) [
      | inl e ↦ simp (e, apart x e) (omega arith)
      | inr e ↦ elim (cases_Bool (u x)) [
        | inl f ↦ simp (e, f) (omega arith)
        | inr f ↦ simp (e, f) (omega arith)
      ]
    ]

places_least : (t : Mark → Bool) (p : ℕ) (ms : List Mark) (q : ℕ) (qs : List ℕ) → places_from p t ms ≡ q ∷ qs → p ≤ q
places_least t p [] q qs h = absurd (cc)
places_least t p (x ∷ xs) q qs h =
    elim (cases_Bool (t x)) [
      | inl e ↦ let same : p ≡ q = (let h' = simp e at h in cc) in omega arith
      | inr e ↦ let h' = simp e at h in let b = places_least t (suc p) xs q qs h' in omega arith
    ]

-- before the first that passes none does
pub none_before_first : (t : Mark → Bool) (p q : ℕ) (ms : List Mark) (qs : List ℕ) → places_from p t ms ≡ q ∷ qs → places_from p t (take (q - p) ms) ≡ []
none_before_first t p q [] qs h = absurd (cc)
none_before_first t p q (x ∷ xs) qs h =
    elim (cases_Bool (t x)) [
      | inl e ↦ let same : p ≡ q = (let h' = simp e at h in cc) in let z : q - p ≡ 0 = omega arith in rw z
      | inr e ↦
          let h' = simp e at h in
          let above = places_least t (suc p) xs q qs h' in
          let s : q - p ≡ suc (q - suc p) = omega arith in
          rw s (simp e (none_before_first t (suc p) q xs qs h'))
    ]

pub places_shift : (t : Mark → Bool) (p q : ℕ) (ms : List Mark) → places_from p t ms ≡ [] → places_from q t ms ≡ []
places_shift t p q [] h = refl
places_shift t p q (x ∷ xs) h =
    elim (cases_Bool (t x)) [
      | inl e ↦ absurd (let no = simp e at h in cc)
      | inr e ↦ simp e (places_shift t (suc p) (suc q) xs (simp e at h))
    ]

pub places_take_none : (t : Mark → Bool) (p n : ℕ) (ms : List Mark) → places_from p t ms ≡ [] → places_from p t (take n ms) ≡ []
places_take_none t p zero ms h = refl
places_take_none t p (suc n) [] h = refl
places_take_none t p (suc n) (x ∷ xs) h =
    elim (cases_Bool (t x)) [
      | inl e ↦ absurd (let no = simp e at h in cc)
      | inr e ↦ simp e (places_take_none t (suc p) n xs (simp e at h))
    ]

pub nil_right : (xs ys : List ℕ) → xs ++ ys ≡ [] → ys ≡ []
nil_right [] ys h = h
nil_right (x ∷ xs) ys h = absurd (cc)

-- none passes in a part of marks of which none passes
pub places_drop_none : (t : Mark → Bool) (n : ℕ) (ms : List Mark) → n ≤ length ms → places t ms ≡ [] → places t (drop n ms) ≡ []
places_drop_none t n ms h e = places_shift t n 0 (drop n ms) (nil_right (places t (take n ms)) (places_from n t (drop n ms)) (sym (places_split t ms n h) ∙ e))

pub put_first : (t : Mark → Bool) (m : Mark) (k : ℕ) (ms : List Mark) → put (take k (places t ms)) m ms ≡ mark_first t k m ms
put_first t m k ms = put-places t m k [] ms

pub put_all_of : (t : Mark → Bool) (m : Mark) (ms : List Mark) → put (places t ms) m ms ≡ mark_all t m ms
put_all_of t m ms = ap (λ ps. put ps m ms) (sym (take_all (length (places t ms)) (places t ms) (omega arith))) ∙ put_first t m (length (places t ms)) ms ∙ mark_first_all t m (length (places t ms)) 0 ms (omega arith)

-- one half of a batch deposited, the other given back
pub put_given : (role done : ℕ) (ms : List Mark) → put (drop done (out_of ms role)) (Left role) (put (take done (out_of ms role)) Deposited ms) ≡ given_back role done ms
put_given role done ms =
    ap (put (drop done (out_of ms role)) (Left role)) (put_first (is_out role) Deposited done ms)
    ∙ ap (λ ps. put ps (Left role) (mark_first (is_out role) done Deposited ms)) (sym (places-mark_first_same (is_out role) Deposited refl done 0 ms))
    ∙ put_all_of (is_out role) (Left role) (mark_first (is_out role) done Deposited ms)

pub mark_first_none : (t : Mark → Bool) (m : Mark) (k : ℕ) (ms : List Mark) → places t ms ≡ [] → mark_first t k m ms ≡ ms
mark_first_none t m k ms h = mark_first_all t m k 0 ms (rw h (omega arith)) ∙ mark_all_none t m 0 ms h

-- where none is out, nothing is given back
pub given_back_none : (role done : ℕ) (ms : List Mark) → out_of ms role ≡ [] → given_back role done ms ≡ ms
given_back_none role done ms h = ap (mark_all (is_out role) (Left role)) (mark_first_none (is_out role) Deposited done ms h) ∙ mark_all_none (is_out role) (Left role) 0 ms h

pub take-given_back : (role done n : ℕ) (ms : List Mark) → take n (given_back role done ms) ≡ given_back role done (take n ms)
take-given_back role done n ms = take-mark_all (is_out role) (Left role) n _ ∙ ap (mark_all (is_out role) (Left role)) (take-mark_first (is_out role) Deposited n done ms)
