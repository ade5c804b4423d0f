use Rattle.std.proofs.Common.{◌≡◌, ℕ, zero, suc, ◌+◌, ◌<◌, ◌≤◌, Bool, true, false, cond, List, [], ◌∷◌, ◌++◌, length, get_or, take, drop, refl, ap, sym, ◌∙◌, inl, inr, arith, append_assoc, add-one, add-zero, subst, append-nil, take-append-drop}
use Rattle.std.proofs.lemmas.Bool.{cases_Bool, cases_lt}
use Rattle.std.proofs.lemmas.List.{set_at, length_push, take_more, take_at, take_all, length-take-le}
use Rattle.page_partition.specs.declared.table.Mark.{Mark}
use Rattle.page_partition.specs.Scan.{places_from, places, mark_first, put}

-- the rest of the marks that pass
pub places-mark_first_same : (t : Mark → Bool) (m : Mark) → t m ≡ false → (k p : ℕ) (ms : List Mark) → places_from p t (mark_first t k m ms) ≡ drop k (places_from p t ms)
places-mark_first_same t m h zero p ms = refl
places-mark_first_same t m h (suc k) p [] = refl
places-mark_first_same t m h (suc k) p (x ∷ xs) =
    elim (cases_Bool (t x)) [
      | inl e ↦ simp (e, h) (places-mark_first_same t m h k (suc p) xs)
      | inr e ↦ simp (e, h) (places-mark_first_same t m h (suc k) (suc p) xs)
    ]

-- marks that another test asks for stay
pub places-mark_first_other : (t u : Mark → Bool) (m : Mark) → u m ≡ false → ((x : Mark) → t x ≡ true → u x ≡ false) → (k p : ℕ) (ms : List Mark) → places_from p u (mark_first t k m ms) ≡ places_from p u ms
places-mark_first_other t u m h apart zero p ms = refl
places-mark_first_other t u m h apart (suc k) p [] = refl
places-mark_first_other t u m h apart (suc k) p (x ∷ xs) =
    elim (cases_Bool (t x)) [
      | inl e ↦ simp (e, h, apart x e) (places-mark_first_other t u m h apart k (suc p) xs)
      | inr e ↦ simp e (elim (cases_Bool (u x)) [
        | inl f ↦ simp f (ap (λ ys. p ∷ ys) (places-mark_first_other t u m h apart (suc k) (suc p) xs))
        | inr f ↦ simp f (places-mark_first_other t u m h apart (suc k) (suc p) xs)
      ])
    ]

-- the new marks are the first of the old ones, where there was none before
pub places-mark_first_new : (t u : Mark → Bool) (m : Mark) → u m ≡ true → ((x : Mark) → t x ≡ true → u x ≡ false) → (k p : ℕ) (ms : List Mark) → places_from p u ms ≡ [] → places_from p u (mark_first t k m ms) ≡ take k (places_from p t ms)
places-mark_first_new t u m h apart zero p ms none = none
places-mark_first_new t u m h apart (suc k) p [] none = refl
places-mark_first_new t u m h apart (suc k) p (x ∷ xs) none =
    elim (cases_Bool (t x)) [
      | inl e ↦ simp (e, h) (ap (λ ys. p ∷ ys) (places-mark_first_new t u m h apart k (suc p) xs (simp (apart x e) at none)))
      | inr e ↦ simp e (elim (cases_Bool (u x)) [
        | inl f ↦ absurd (let no = simp f at none in cc)
        | inr f ↦ simp f (places-mark_first_new t u m h apart (suc k) (suc p) xs (simp f at none))
      ])
    ]

pub length-mark_first : (t : Mark → Bool) (m : Mark) (k : ℕ) (ms : List Mark) → length (mark_first t k m ms) ≡ length ms
length-mark_first t m zero ms = refl
length-mark_first t m (suc k) [] = refl
length-mark_first t m (suc k) (x ∷ xs) =
    elim (cases_Bool (t x)) [
      | inl e ↦ simp e (ap suc (length-mark_first t m k xs))
      | inr e ↦ simp e (ap suc (length-mark_first t m (suc k) xs))
    ]

-- a mark at each of the first k positions that pass
pub put-places : (t : Mark → Bool) (m : Mark) (k : ℕ) (front ms : List Mark) → put (take k (places_from (length front) t ms)) m (front ++ ms) ≡ front ++ mark_first t k m ms
put-places t m zero front ms = refl
put-places t m (suc k) front [] = refl
put-places t m (suc k) front (x ∷ xs) =
    elim (cases_Bool (t x)) [
      | inl e ↦ simp (e, set_at front x xs m (length front) refl) (simp (length_push, add-one, append_assoc) at (put-places t m k (front ++ m ∷ []) xs))
      | inr e ↦ simp e (simp (length_push, add-one, append_assoc) at (put-places t m (suc k) (front ++ x ∷ []) xs))
    ]

pub places_from-append : (t : Mark → Bool) (p : ℕ) (xs ys : List Mark) → places_from p t (xs ++ ys) ≡ places_from p t xs ++ places_from (p + length xs) t ys
places_from-append t p [] ys = simp add-zero
places_from-append t p (x ∷ xs) ys =
    let ih = places_from-append t (suc p) xs ys in
    let e : suc p + length xs ≡ p + suc (length xs) = omega arith in
    elim (cases_Bool (t x)) [
      | inl f ↦ simp f (ap (λ zs. p ∷ zs) (subst (λ n. places_from (suc p) t (xs ++ ys) ≡ places_from (suc p) t xs ++ places_from n t ys) e ih))
      | inr f ↦ simp f (subst (λ n. places_from (suc p) t (xs ++ ys) ≡ places_from (suc p) t xs ++ places_from n t ys) e ih)
    ]

pub places_split : (t : Mark → Bool) (ms : List Mark) (n : ℕ) → n ≤ length ms → places t ms ≡ places t (take n ms) ++ places_from n t (drop n ms)
places_split t ms n h =
    let cut = places_from-append t 0 (take n ms) (drop n ms) in
    let whole : take n ms ++ drop n ms ≡ ms = take-append-drop n ms in
    let len : 0 + length (take n ms) ≡ n = omega (arith, length-take-le n ms h) in
    ap (places t) (sym whole) ∙ cut ∙ ap (λ k. places t (take n ms) ++ places_from k t (drop n ms)) len

-- one more mark
pub places_more : (t : Mark → Bool) (ms : List Mark) (n : ℕ) (d : Mark) → n < length ms → places t (take (n + 1) ms) ≡ places t (take n ms) ++ cond (t (get_or ms n d)) (n ∷ []) []
places_more t ms n d h =
    let len : 0 + length (take n ms) ≡ n = omega (arith, length-take-le n ms (omega arith)) in
    ap (places t) (take_more ms n d h) ∙ places_from-append t 0 (take n ms) (get_or ms n d ∷ []) ∙ ap (λ k. places t (take n ms) ++ places_from k t (get_or ms n d ∷ [])) len

pub places_more_true : (t : Mark → Bool) (ms : List Mark) (n : ℕ) (d : Mark) → n < length ms → t (get_or ms n d) ≡ true → places t (take (n + 1) ms) ≡ places t (take n ms) ++ n ∷ []
places_more_true t ms n d h e = places_more t ms n d h ∙ simp e

pub places_more_false : (t : Mark → Bool) (ms : List Mark) (n : ℕ) (d : Mark) → n < length ms → t (get_or ms n d) ≡ false → places t (take (n + 1) ms) ≡ places t (take n ms)
places_more_false t ms n d h e = places_more t ms n d h ∙ simp (e, append-nil)

-- the search isn't at the end while it has too few
pub before_end : (t : Mark → Bool) (ms : List Mark) (n count : ℕ) → n ≤ length ms → length (places t (take n ms)) < count → count ≤ length (places t ms) → n < length ms
before_end t ms n count h few enough =
    elim (cases_lt n (length ms)) [
      | inl lt ↦ lt
      | inr ge ↦ absurd (let all : take n ms ≡ ms = take_all n ms ge in let few' = rw all at few in omega arith)
    ]

pub take-places : (t : Mark → Bool) (ms : List Mark) (n count : ℕ) → n ≤ length ms → length (places t (take n ms)) ≡ count → take count (places t ms) ≡ places t (take n ms)
take-places t ms n count h e = ap (take count) (places_split t ms n h) ∙ take_at _ _ count e
