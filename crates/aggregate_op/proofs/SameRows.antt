-- What a fold knows and answers of rows does not depend on their order: lists with the same rows have the same partial,
-- the same answer, and may be folded alike.
use Rattle.std.proofs.Common.{◌≡◌, ℕ, ◌+◌, ◌-◌, ◌==◌, ◌+ℤ◌, ◌++◌, min, Bool, true, false, cond, List, [], ◌∷◌, refl, sym, ap, ◌∙◌, subst, arith, length, map, filter}
use Rattle.std.specs.Prelude.{nat_lt, Some, None, if◌then◌else◌}
use Rattle.std.specs.List.{AllByRecursion, sum_by}
use Rattle.std.specs.List.Sorted.{IsPermutation}
use Rattle.std.specs.Option.{option_map}
use Rattle.std.specs.declared.cmp.Ordering.{Ordering}
use Rattle.std.specs.Ordering.{is_gt, is_eq}
use Rattle.std.proofs.lemmas.Int.{ints}
use Rattle.std.proofs.lemmas.List.Sums.{sum_by-cons}
use Rattle.lists.specs.Arranged.{insert_by, sort_by, distinct_by, occurrences, one_if}
use Rattle.lists.proofs.Arranging.{bag_fixes, sort_ascends, occurrences-sort, occurrences-permutation}
use Rattle.rows.specs.declared.value.Value.{Value}
use Rattle.rows.specs.declared.value.Value.TheVariants.{Number}
use Rattle.rows.specs.declared.order.SortKey.{SortKey}
use Rattle.rows.specs.Values.{value_cmp, row_cmp, column_of, arranged}
use Rattle.rows.proofs.Orders.{value_total, value_exact, row_total, row_exact}
use Rattle.aggregate_op.specs.declared.fold.Fold.{Fold}
use Rattle.aggregate_op.specs.declared.fold.FoldOp.{FoldOp}
use Rattle.aggregate_op.specs.declared.fold.FoldOp.TheVariants.{Count, Min, Max, Sum}
use Rattle.aggregate_op.specs.Partials.{group_of, groups_of, is_member, members, op_values, is_no_null, integer_in, sum_of, number, high_part, low_part, part_of, parts_from, parts_of, most_rows, known_of, partial, IsFoldRow}
use Rattle.aggregate_op.specs.FoldMeaning.{all_some, is_small, op_answer, op_answers_from, shown, group_answer, fold_answer, fold_meaning}
use Rattle.aggregate_op.specs.Stored.{IsStoredRow, AreFoldRows, IsPartialOf}
use Rattle.aggregate_op.proofs.Lesser.{all_sort, length-sort}
use Rattle.aggregate_op.proofs.MergedRows.{groups_often}

-- each row stands as often in the one list as in the other
abbrev pub SameRows : List (List Value) → List (List Value) → Type 0
SameRows xs ys = (z : List Value) → occurrences (row_cmp []) z xs ≡ occurrences (row_cmp []) z ys

pub same_moved : (xs ys : List (List Value)) → IsPermutation xs ys → SameRows xs ys
same_moved xs ys moved = λ z. sym (occurrences-permutation (row_total []) z xs ys moved)

-- ---- sums over a sorted list

sum-insert : {K : Type 0} (cmp : K → K → Ordering) (f : K → ℕ) (x : K) (xs : List K) → sum_by f (insert_by cmp x xs) ≡ f x + sum_by f xs
sum-insert cmp f x [] = sum_by-cons f x []
sum-insert cmp f x (y ∷ ys) = elim (is_gt (cmp x y)) as (λ b. sum_by f (cond b (y ∷ insert_by cmp x ys) (x ∷ y ∷ ys)) ≡ f x + sum_by f (y ∷ ys)) [
  | true ↦ omega (arith, sum_by-cons f y (insert_by cmp x ys), sum_by-cons f y ys, sum-insert cmp f x ys)
  | false ↦ sum_by-cons f x (y ∷ ys)
]

sum-sort : {K : Type 0} (cmp : K → K → Ordering) (f : K → ℕ) (xs : List K) → sum_by f (sort_by cmp xs) ≡ sum_by f xs
sum-sort cmp f [] = refl
sum-sort cmp f (x ∷ xs) = sum-insert cmp f x (sort_by cmp xs) ∙ ap (λ n. f x + n) (sum-sort cmp f xs) ∙ sym (sum_by-cons f x xs)

-- ---- the same values

integers-insert : (x : Value) (vs : List Value) → sum_of (insert_by value_cmp x vs) ≡ integer_in x +ℤ sum_of vs
integers-insert x [] = refl
integers-insert x (v ∷ vs) = elim (is_gt (value_cmp x v)) as (λ b. sum_of (cond b (v ∷ insert_by value_cmp x vs) (x ∷ v ∷ vs)) ≡ integer_in x +ℤ (integer_in v +ℤ sum_of vs)) [
  | true ↦ ap (λ z. integer_in v +ℤ z) (integers-insert x vs) ∙ omega (arith, ints)
  | false ↦ refl
]

integers-sort : (vs : List Value) → sum_of (sort_by value_cmp vs) ≡ sum_of vs
integers-sort [] = refl
integers-sort (v ∷ vs) = integers-insert v (sort_by value_cmp vs) ∙ ap (λ z. integer_in v +ℤ z) (integers-sort vs)

module _ (vs ws : List Value) (e : sort_by value_cmp vs ≡ sort_by value_cmp ws) where
  as_many : length vs ≡ length ws
  as_many = sym (length-sort value_cmp vs) ∙ ap length e ∙ length-sort value_cmp ws

  same_sum : sum_of vs ≡ sum_of ws
  same_sum = sym (integers-sort vs) ∙ ap sum_of e ∙ integers-sort ws

  same_greatest : column_of (sort_by value_cmp vs) (length vs - 1) ≡ column_of (sort_by value_cmp ws) (length ws - 1)
  same_greatest = ap (λ s. column_of s (length vs - 1)) e ∙ ap (λ n. column_of (sort_by value_cmp ws) (n - 1)) as_many

  same_part : (op : FoldOp) → part_of op vs ≡ part_of op ws
  same_part Count = ap (λ n. number n ∷ []) as_many
  same_part Min = ap (λ s. column_of s 0 ∷ []) e
  same_part Max = ap (λ v. v ∷ []) same_greatest
  same_part Sum =
      ap (λ n. number n ∷ Number (high_part (sum_of vs)) ∷ Number (low_part (sum_of vs)) ∷ []) as_many
      ∙ ap (λ s. number (length ws) ∷ Number (high_part s) ∷ Number (low_part s) ∷ []) same_sum

sum_answer : (vs ws : List Value) → length vs ≡ length ws → sum_of vs ≡ sum_of ws → op_answer Sum vs ≡ op_answer Sum ws
sum_answer [] [] h e = refl
sum_answer [] (w ∷ ws) h e = absurd (omega (arith, h))
sum_answer (v ∷ vs) [] h e = absurd (omega (arith, h))
sum_answer (v ∷ vs) (w ∷ ws) h e = ap (λ s. if is_small s then Some (Number s) else None) e

same_op_answer : (vs ws : List Value) → sort_by value_cmp vs ≡ sort_by value_cmp ws → (op : FoldOp) → op_answer op vs ≡ op_answer op ws
same_op_answer vs ws e Count = ap (λ n. Some (number n)) (as_many vs ws e)
same_op_answer vs ws e Min = ap (λ s. Some (column_of s 0)) e
same_op_answer vs ws e Max = ap Some (same_greatest vs ws e)
same_op_answer vs ws e Sum = sum_answer vs ws (as_many vs ws e) (same_sum vs ws e)

-- ---- a group's rows with the same values for each op

module _ (fold : Fold) (ms ns : List (List Value)) (each : (k : ℕ) → sort_by value_cmp (op_values fold k ms) ≡ sort_by value_cmp (op_values fold k ns)) where
  same_parts : (k : ℕ) (ops : List FoldOp) → parts_from fold k ops ms ≡ parts_from fold k ops ns
  same_parts k [] = refl
  same_parts k (op ∷ ops) = λ i. same_part (op_values fold k ms) (op_values fold k ns) (each k) op i ++ same_parts (k + 1) ops i

  same_answers : (k : ℕ) (ops : List FoldOp) → op_answers_from fold k ops ms ≡ op_answers_from fold k ops ns
  same_answers k [] = refl
  same_answers k (op ∷ ops) = λ i. same_op_answer (op_values fold k ms) (op_values fold k ns) (each k) op i ∷ same_answers (k + 1) ops i

module _ (fold : Fold) (group : List Value) (ms ns : List (List Value)) (count : length ms ≡ length ns) (each : (k : ℕ) → sort_by value_cmp (op_values fold k ms) ≡ sort_by value_cmp (op_values fold k ns)) where
  told_alike : (b : Bool) → parts_of fold (cond b ms []) ≡ parts_of fold (cond b ns [])
  told_alike true = same_parts fold ms ns each 0 fold.ops
  told_alike false = refl

  same_known : known_of fold group ms ≡ known_of fold group ns
  same_known =
      ap (λ parts. group ++ number (min (length ms) most_rows) ∷ parts) (told_alike (nat_lt (length ms) most_rows))
      ∙ ap (λ n. group ++ number (min n most_rows) ∷ parts_of fold (cond (nat_lt n most_rows) ns [])) count

  same_group_answer : group_answer fold group ms ≡ group_answer fold group ns
  same_group_answer =
      ap (λ answers. if nat_lt (length ms) most_rows then option_map (λ vs. map (shown group vs) fold.places) (all_some answers) else None) (same_answers fold ms ns each 0 fold.ops)
      ∙ ap (λ n. if nat_lt n most_rows then option_map (λ vs. map (shown group vs) fold.places) (all_some (op_answers_from fold 0 fold.ops ns)) else None) count

-- ---- how often a value stands in a group's rows, as a sum over all rows

module _ (fold : Fold) (group : List Value) where
  counted : (rows : List (List Value)) → length (members fold group rows) ≡ sum_by (λ row. one_if (is_member fold group row)) rows
  counted [] = refl
  counted (row ∷ rows) = by (is_member fold group row) (counted rows) ∙ sym (sum_by-cons (λ r. one_if (is_member fold group r)) row rows) where
    by : (b : Bool) → length (members fold group rows) ≡ sum_by (λ r. one_if (is_member fold group r)) rows
        → length (cond b (row ∷ members fold group rows) (members fold group rows)) ≡ one_if b + sum_by (λ r. one_if (is_member fold group r)) rows
    by true rest = omega (arith, rest)
    by false rest = omega (arith, rest)

  -- what a row adds to the number of times that a value stands there
  abbrev adds : ℕ → Value → List Value → ℕ
  adds k z row = cond (is_member fold group row) (cond (is_no_null (column_of row (fold.groups + k))) (one_if (is_eq (value_cmp z (column_of row (fold.groups + k))))) 0) 0

  values_often : (k : ℕ) (z : Value) (rows : List (List Value)) → occurrences value_cmp z (op_values fold k (members fold group rows)) ≡ sum_by (adds k z) rows
  values_often k z [] = refl
  values_often k z (row ∷ rows) = by (is_member fold group row) (values_often k z rows) ∙ sym (sum_by-cons (adds k z) row rows) where
    told : occurrences value_cmp z (op_values fold k (members fold group rows)) ≡ sum_by (adds k z) rows → (d : Bool)
        → occurrences value_cmp z (cond d (column_of row (fold.groups + k) ∷ op_values fold k (members fold group rows)) (op_values fold k (members fold group rows)))
        ≡ cond d (one_if (is_eq (value_cmp z (column_of row (fold.groups + k))))) 0 + sum_by (adds k z) rows
    told rest true = omega (arith, rest)
    told rest false = omega (arith, rest)

    by : (b : Bool) → occurrences value_cmp z (op_values fold k (members fold group rows)) ≡ sum_by (adds k z) rows
        → occurrences value_cmp z (filter is_no_null (map (λ r. column_of r (fold.groups + k)) (cond b (row ∷ members fold group rows) (members fold group rows))))
        ≡ cond b (cond (is_no_null (column_of row (fold.groups + k))) (one_if (is_eq (value_cmp z (column_of row (fold.groups + k))))) 0) 0 + sum_by (adds k z) rows
    by true rest = told rest (is_no_null (column_of row (fold.groups + k)))
    by false rest = omega (arith, rest)

-- ---- the same rows

all_uninsert : {K : Type 0} (cmp : K → K → Ordering) (P : K → Type 0) (x : K) (xs : List K) → AllByRecursion P (insert_by cmp x xs) → P x × AllByRecursion P xs
all_uninsert cmp P x [] all = (all.0, tt)
all_uninsert cmp P x (y ∷ ys) all = (elim (is_gt (cmp x y)) as (λ b. AllByRecursion P (cond b (y ∷ insert_by cmp x ys) (x ∷ y ∷ ys)) → P x × AllByRecursion P (y ∷ ys)) [
  | true ↦ λ a. (let rest = all_uninsert cmp P x ys a.1 in (rest.0, (a.0, rest.1)))
  | false ↦ λ a. (a.0, a.1)
]) all

all_unsort : {K : Type 0} (cmp : K → K → Ordering) (P : K → Type 0) (xs : List K) → AllByRecursion P (sort_by cmp xs) → AllByRecursion P xs
all_unsort cmp P [] all = tt
all_unsort cmp P (x ∷ xs) all = let both = all_uninsert cmp P x (sort_by cmp xs) all in (both.0, all_unsort cmp P xs both.1)

module _ (xs ys : List (List Value)) (same : SameRows xs ys) where
  sorted_alike : sort_by (row_cmp []) xs ≡ sort_by (row_cmp []) ys
  sorted_alike = bag_fixes (row_total []) (row_exact []) (sort_by (row_cmp []) xs) (sort_by (row_cmp []) ys) (sort_ascends (row_total []) xs) (sort_ascends (row_total []) ys)
      (λ z. occurrences-sort (row_total []) z xs ∙ same z ∙ sym (occurrences-sort (row_total []) z ys))

  weighed_alike : (f : List Value → ℕ) → sum_by f xs ≡ sum_by f ys
  weighed_alike f = sym (sum-sort (row_cmp []) f xs) ∙ ap (sum_by f) sorted_alike ∙ sum-sort (row_cmp []) f ys

  pub all_alike : (P : List Value → Type 0) → AllByRecursion P xs → AllByRecursion P ys
  all_alike P all = all_unsort (row_cmp []) P ys (subst (AllByRecursion P) sorted_alike (all_sort (row_cmp []) P xs all))

module _ (fold : Fold) (xs ys : List (List Value)) (same : SameRows xs ys) where
  as_many_members : (group : List Value) → length (members fold group xs) ≡ length (members fold group ys)
  as_many_members group = counted fold group xs ∙ weighed_alike xs ys same (λ row. one_if (is_member fold group row)) ∙ sym (counted fold group ys)

  same_values : (group : List Value) (k : ℕ) → sort_by value_cmp (op_values fold k (members fold group xs)) ≡ sort_by value_cmp (op_values fold k (members fold group ys))
  same_values group k =
      bag_fixes value_total value_exact (sort_by value_cmp (op_values fold k (members fold group xs))) (sort_by value_cmp (op_values fold k (members fold group ys)))
      (sort_ascends value_total (op_values fold k (members fold group xs))) (sort_ascends value_total (op_values fold k (members fold group ys)))
      (λ z. occurrences-sort value_total z (op_values fold k (members fold group xs))
      ∙ values_often fold group k z xs
      ∙ weighed_alike xs ys same (adds fold group k z)
      ∙ sym (values_often fold group k z ys)
      ∙ sym (occurrences-sort value_total z (op_values fold k (members fold group ys))))

  same_groups : groups_of fold xs ≡ groups_of fold ys
  same_groups =
      bag_fixes (row_total []) (row_exact []) (groups_of fold xs) (groups_of fold ys)
      (sort_ascends (row_total []) (distinct_by (row_cmp []) (map (group_of fold) xs)))
      (sort_ascends (row_total []) (distinct_by (row_cmp []) (map (group_of fold) ys)))
      (λ z. groups_often fold z xs ∙ ap (λ n. min n 1) (as_many_members z) ∙ sym (groups_often fold z ys))

  -- the same rows have the same partial
  pub same_partial : partial fold xs ≡ partial fold ys
  same_partial = λ i. map (λ group. same_known fold group (members fold group xs) (members fold group ys) (as_many_members group) (same_values group) i) (same_groups i)

  answered_alike : (b : Bool) → cond b ([] ∷ []) (groups_of fold xs) ≡ cond b ([] ∷ []) (groups_of fold ys)
  answered_alike true = refl
  answered_alike false = same_groups

  -- the same rows have the same answer
  pub same_answer : fold_answer fold xs ≡ fold_answer fold ys
  same_answer = λ i. all_some (map (λ group. same_group_answer fold group (members fold group xs) (members fold group ys) (as_many_members group) (same_values group) i) (answered_alike (fold.groups == 0) i))

  pub same_meaning : (keys : List SortKey) → fold_meaning fold keys xs ≡ fold_meaning fold keys ys
  same_meaning keys = ap (option_map (arranged false keys)) same_answer

  -- the same rows may be folded alike
  pub same_fold_rows : AreFoldRows fold xs → AreFoldRows fold ys
  same_fold_rows may = record { fit = all_alike xs ys same (IsFoldRow fold) may.fit; stored = all_alike xs ys same (IsStoredRow fold) may.stored }

  pub same_partial_of : (found : List (List Value)) → IsPartialOf fold xs found → IsPartialOf fold ys found
  same_partial_of found p = record { may = same_fold_rows p.may; is = p.is ∙ same_partial }

-- what is known of rows in another order
pub of_ordered : (fold : Fold) (rows ordered found : List (List Value)) → IsPermutation rows ordered → found ≡ partial fold ordered → AllByRecursion (IsStoredRow fold) ordered → AllByRecursion (IsFoldRow fold) rows → IsPartialOf fold rows found
of_ordered fold rows ordered found moved e stored fit =
    let back : SameRows ordered rows = λ z. sym (same_moved rows ordered moved z) in
    record {
      may = record { fit = fit; stored = all_alike ordered rows back (IsStoredRow fold) stored };
      is = e ∙ same_partial fold ordered rows back;
    }
