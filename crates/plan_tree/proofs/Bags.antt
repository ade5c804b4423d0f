-- Lists with the same elements are arranged alike.
use Rattle.std.proofs.Common.{◌≡◌, ℕ, ◌+◌, Bool, true, false, cond, List, [], ◌∷◌, refl, sym, ap, ◌∙◌, arith}
use Rattle.std.specs.List.{dedup}
use Rattle.std.specs.declared.cmp.Ordering.{Ordering}
use Rattle.std.specs.Ordering.{is_gt, is_eq}
use Rattle.std.specs.Cmp.{IsTotalOrder}
use Rattle.lists.specs.Arranged.{insert_by, sort_by, one_if, occurrences}
use Rattle.lists.proofs.Arranging.{bag_fixes, sort_ascends, occurrences-sort, dedup-sort}
use Rattle.rows.specs.declared.value.Value.{Value}
use Rattle.rows.specs.declared.order.SortKey.{SortKey}
use Rattle.rows.specs.Values.{row_cmp, arranged}
use Rattle.rows.proofs.Orders.{row_total, row_exact}
use Rattle.plan_tree.proofs.Sums.{total, Same}

counted : {K : Type 0} (cmp : K → K → Ordering) (z : K) (xs : List K) → occurrences cmp z xs ≡ total (λ x. one_if (is_eq (cmp z x))) xs
counted cmp z [] = refl
counted cmp z (x ∷ xs) = ap (λ n. one_if (is_eq (cmp z x)) + n) (counted cmp z xs)

pub same_occurrences : {K : Type 0} (cmp : K → K → Ordering) (xs ys : List K) → Same xs ys → (z : K) → occurrences cmp z xs ≡ occurrences cmp z ys
same_occurrences cmp xs ys same z = counted cmp z xs ∙ same (λ x. one_if (is_eq (cmp z x))) ∙ sym (counted cmp z ys)

total_insert : {K : Type 0} (cmp : K → K → Ordering) (f : K → ℕ) (x : K) (xs : List K) → total f (insert_by cmp x xs) ≡ f x + total f xs
total_insert cmp f x [] = refl
total_insert cmp f x (y ∷ ys) = elim (is_gt (cmp x y)) as (λ b. total f (cond b (y ∷ insert_by cmp x ys) (x ∷ y ∷ ys)) ≡ f x + (f y + total f ys)) [
  | true ↦ omega (arith, total_insert cmp f x ys)
  | false ↦ refl
]

-- a sort only moves elements
pub sort_same : {K : Type 0} (cmp : K → K → Ordering) (xs : List K) → Same (sort_by cmp xs) xs
sort_same cmp [] f = refl
sort_same cmp (x ∷ xs) f = total_insert cmp f x (sort_by cmp xs) ∙ ap (λ n. f x + n) (sort_same cmp xs f)

-- the same rows stand in the same order once they are arranged
pub arranged_same : (unique : Bool) (keys : List SortKey) (xs ys : List (List Value)) → Same xs ys → arranged unique keys xs ≡ arranged unique keys ys
arranged_same unique keys xs ys same = by unique where
  order : IsTotalOrder (row_cmp keys)
  order = row_total keys

  sorted : sort_by (row_cmp keys) xs ≡ sort_by (row_cmp keys) ys
  sorted = bag_fixes order (row_exact keys) _ _ (sort_ascends order xs) (sort_ascends order ys)
      (λ z. occurrences-sort order z xs ∙ same_occurrences (row_cmp keys) xs ys same z ∙ sym (occurrences-sort order z ys))

  by : (b : Bool) → arranged b keys xs ≡ arranged b keys ys
  by true = sym (dedup-sort order (row_exact keys) xs) ∙ ap (dedup (λ next kept. is_eq (row_cmp keys next kept))) sorted ∙ dedup-sort order (row_exact keys) ys
  by false = sorted
