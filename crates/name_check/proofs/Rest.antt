-- A list from a place on.
use Rattle.std.proofs.Common.{◌≡◌, ◌≤◌, ℕ, zero, suc, ◌+◌, Bool, true, false, ◌||◌, List, [], ◌∷◌, Some, drop, length, slice_get, refl, ap, ◌∙◌, arith}
use Rattle.std.specs.List.{list_any}

some_same : {A : Type 0} (a b : A) → Some a ≡ Some b → a ≡ b
some_same a b e = cc

pub drop_at : {A : Type 0} (xs : List A) (k : ℕ) (x : A) → slice_get xs k ≡ Some x → drop k xs ≡ x ∷ drop (k + 1) xs
drop_at [] k x e = absurd cc
drop_at (y ∷ ys) zero x e = ap (λ z. z ∷ ys) (some_same y x e)
drop_at (y ∷ ys) (suc k) x e = drop_at ys k x e ∙ ap (λ n. x ∷ drop n (y ∷ ys)) (let e : suc (k + 1) ≡ suc k + 1 = omega arith in e)

drop_past : {A : Type 0} (xs : List A) (k : ℕ) → length xs ≤ k → drop k xs ≡ []
drop_past [] zero h = refl
drop_past [] (suc k) h = refl
drop_past (x ∷ xs) zero h = absurd (omega (arith, h))
drop_past (x ∷ xs) (suc k) h = drop_past xs k (omega (arith, h))

pub any_here : {A : Type 0} (p : A → Bool) (xs : List A) (k : ℕ) (x : A) → slice_get xs k ≡ Some x → p x ≡ true → list_any p (drop k xs) ≡ true
any_here p xs k x e h = ap (list_any p) (drop_at xs k x e) ∙ ap (λ b. b || list_any p (drop (k + 1) xs)) h

pub any_later : {A : Type 0} (p : A → Bool) (xs : List A) (k : ℕ) (x : A) → slice_get xs k ≡ Some x → p x ≡ false → list_any p (drop k xs) ≡ list_any p (drop (k + 1) xs)
any_later p xs k x e h = ap (list_any p) (drop_at xs k x e) ∙ ap (λ b. b || list_any p (drop (k + 1) xs)) h

pub any_end : {A : Type 0} (p : A → Bool) (xs : List A) (k : ℕ) → length xs ≤ k → list_any p (drop k xs) ≡ false
any_end p xs k h = ap (list_any p) (drop_past xs k h)
