-- Lists.
use Rattle.std.proofs.Common.{◌≡◌, ℕ, zero, suc, ◌<◌, List, [], ◌∷◌, ◌++◌, length, take, Some, refl, sym, ap, arith}
use Rattle.std.specs.Prelude.{slice_get, slice_index_or, slice_set}
use Rattle.std.specs.List.{remove}

-- the first item and those that stay when it is removed
pub removed_first : {A : Type 0} (xs ys : List A) (x : A) → 0 < length xs → x ≡ slice_index_or xs 0 x → ys ≡ remove xs 0 → xs ≡ x ∷ ys
removed_first [] ys x some value rest = absurd (omega arith)
removed_first (z ∷ zs) ys x some value rest = (λ j. sym value j ∷ sym rest j)

pub none_left : {A : Type 0} (xs : List A) → length xs ≡ 0 → xs ≡ []
none_left [] e = refl
none_left (x ∷ xs) e = absurd (omega arith)

-- what stands at a place of a list
pub item_at : {A : Type 0} (xs : List A) (k : ℕ) → k < length xs → (x : A) × (slice_get xs k ≡ Some x)
item_at [] k lt = absurd (omega arith)
item_at (x ∷ xs) zero lt = (x, refl)
item_at (x ∷ xs) (suc k) lt = item_at xs k (omega arith)

-- a list before another
pub front_is : {A : Type 0} (xs ys : List A) (n : ℕ) → n ≡ length xs → take n (xs ++ ys) ≡ xs
front_is [] ys zero e = refl
front_is [] ys (suc n) e = absurd (omega arith)
front_is (x ∷ xs) ys zero e = absurd (omega arith)
front_is (x ∷ xs) ys (suc n) e = ap (λ l. x ∷ l) (front_is xs ys n (omega arith))

-- what was written at a place
pub set_at : {A : Type 0} (xs : List A) (k : ℕ) (x : A) → k < length xs → slice_get (slice_set xs k x) k ≡ Some x
set_at [] k x lt = absurd (omega arith)
set_at (z ∷ zs) zero x lt = refl
set_at (z ∷ zs) (suc k) x lt = set_at zs k x (omega arith)
