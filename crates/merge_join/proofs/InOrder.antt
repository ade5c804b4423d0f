-- The keys of arranged rows do not fall.
use Rattle.std.proofs.Common.{◌≡◌, ℕ, zero, suc, ◌+◌, ◌<◌, ◌≤◌, Bool, true, false, List, [], ◌∷◌, refl, sym, ap, ◌∙◌, subst, arith, map, length, get_or}
use Rattle.std.specs.Prelude.{IsTrue, Option, Some, None, IsSome, unwrap_or}
use Rattle.std.specs.List.{AllByRecursion}
use Rattle.std.specs.Option.{option_and_then}
use Rattle.std.specs.List.Sorted.{IsSortedBy}
use Rattle.std.specs.declared.cmp.Ordering.{Ordering}
use Rattle.std.specs.declared.cmp.Ordering.TheVariants.{Less, Equal, Greater}
use Rattle.std.specs.Ordering.{is_lt, is_gt, ordering_index, ordering_reverse, ordering_then}
use Rattle.std.specs.Cmp.Lexicographic.{slice_cmp}
use Rattle.std.proofs.lemmas.Cmp.{lists_total}
use Rattle.std.proofs.lemmas.List.{append-nil, get_or_default}
use Rattle.std.proofs.lemmas.List.Sorted.{searchable_from_sorted}
use Rattle.lists.specs.Arranged.{Ascends, sort_by}
use Rattle.lists.proofs.Arranging.{bag_fixes, occurrences-sort, sort_ascends}
use Rattle.rows.specs.declared.value.Value.{Value}
use Rattle.rows.specs.declared.order.SortKey.{SortKey}
use Rattle.rows.specs.declared.plain.ColumnRef.{ColumnRef}
use Rattle.rows.specs.declared.plain.KeyPair.{KeyPair}
use Rattle.rows.specs.declared.plain.LayoutColumn.{LayoutColumn}
use Rattle.rows.specs.declared.plain.LayoutPart.{LayoutPart}
use Rattle.rel_meaning.specs.Typing.{compare_type, is_truth}
use Rattle.rows.specs.Layouts.{IsRowIn, column_place, column_type, value_at}
use Rattle.rows.specs.Values.{arranged, column_of, keys_cmp, row_cmp, value_cmp}
use Rattle.rows.proofs.Orders.{row_exact, row_total, value_total}
use Rattle.hash_join.specs.Table.{IsColumn, row_key, rows_of}
use Rattle.plan_tree.specs.WellFormed.{IsPair, sort_key}
use Rattle.merge_join.specs.Sides.{ArePassed, AreBelow, IsSide, Rises, key_order, left_columns, right_columns}

sorted_from_ascends : {X : Type 0} (cmp : X → X → Ordering) (less : X → X → Bool)
    → ((x y : X) → is_gt (cmp x y) ≡ false → less y x ≡ false)
    → (xs : List X) → Ascends cmp xs → IsSortedBy less xs
sorted_from_ascends cmp less turn [] up k d low high = absurd (omega (arith, high))
sorted_from_ascends cmp less turn (x ∷ []) up k d low high = absurd (omega (arith, high))
sorted_from_ascends cmp less turn (x ∷ y ∷ ys) up zero d low high = turn x y up.0.0
sorted_from_ascends cmp less turn (x ∷ y ∷ ys) up (suc k) d low high =
    let e : suc (k + 1) ≡ suc k + 1 = omega arith in
    subst (λ n. less (get_or (x ∷ y ∷ ys) n d) (get_or (y ∷ ys) k d) ≡ false) e
    (sorted_from_ascends cmp less turn (y ∷ ys) up.1 k d (omega arith) (omega (arith, high)))

first_upto : (o p : Ordering) → is_gt (ordering_then o p) ≡ false → is_gt o ≡ false
first_upto Less p h = refl
first_upto Equal p h = refl
first_upto Greater p h = h

turned : (o p : Ordering) → p ≡ ordering_reverse o → is_gt o ≡ false → is_lt p ≡ false
turned Less p e h = ap is_lt e
turned Equal p e h = ap is_lt e
turned Greater p e h = cc

at_place : (row : List Value) (place : Option ℕ) → IsSome place → column_of row (unwrap_or place 0)
    ≡ value_at row place
at_place row None some = cc
at_place row (Some place) some = refl

-- the sort keys that are columns of the layout order rows by their keys
keys_are : (layout : List LayoutPart) (columns : List ColumnRef) (x y : List Value)
    → AllByRecursion (IsColumn layout) columns
    → keys_cmp (map (sort_key layout) columns) x y ≡ slice_cmp value_cmp (row_key layout columns x)
    (row_key layout columns y)
keys_are layout [] x y there = refl
keys_are layout (c ∷ columns) x y there =
    λ i. ordering_then (value_cmp (at_place x (column_place layout c.var c.col) there.0 i)
    (at_place y (column_place layout c.var c.col) there.0 i))
    (keys_are layout columns x y there.1 i)

module _ (layout : List LayoutPart) (columns : List ColumnRef) (lists : List (List (List Value)))
    (side : IsSide layout columns lists) where
  pub keys_sorted : IsSortedBy
      (λ x y. is_lt (slice_cmp value_cmp (row_key layout columns x) (row_key layout columns y)))
      (rows_of lists)
  keys_sorted = sorted_from_ascends (row_cmp sorts)
      (λ x y. is_lt (slice_cmp value_cmp (row_key layout columns x) (row_key layout columns y)))
      turn (rows_of lists) up where
        sorts : List SortKey
        sorts = map (sort_key layout) columns

        up : Ascends (row_cmp sorts) (rows_of lists)
        up = subst (Ascends (row_cmp sorts)) (sym side.in_order)
            (sort_ascends (row_total sorts) (rows_of lists))

        turn : (x y : List Value) → is_gt (row_cmp sorts x y) ≡ false
            → is_lt (slice_cmp value_cmp (row_key layout columns y)
            (row_key layout columns x)) ≡ false
        turn x y h =
            let o = slice_cmp value_cmp (row_key layout columns x) (row_key layout columns y) in
            let e : is_gt o ≡ false =
            sym (ap is_gt (keys_are layout columns x y side.columns_there))
            ∙ first_upto (keys_cmp sorts x y) (slice_cmp value_cmp x y) h in
            turned o _ ((lists_total value_total).antisymm (row_key layout columns y)
            (row_key layout columns x)) e

above : (o p o' p' : Ordering) → o ≡ ordering_reverse o' → p ≡ ordering_reverse p'
    → ordering_index o' ≤ ordering_index p' → is_lt o ≡ true → is_lt p ≡ true
above o p Less p' e f le h = let k : is_lt o ≡ false = ap is_lt e in cc
above o p Equal p' e f le h = let k : is_lt o ≡ false = ap is_lt e in cc
above o p Greater Less e f le h = absurd (omega (arith, le))
above o p Greater Equal e f le h = absurd (omega (arith, le))
above o p Greater Greater e f le h = ap is_lt f

module _ (left right : List LayoutPart) (keys : List KeyPair)
    (left_lists right_lists : List (List (List Value)))
    (left_side : IsSide left (left_columns keys) left_lists)
    (right_side : IsSide right (right_columns keys) right_lists) where
  pub right_rises : (a : List Value) → Rises left right keys a (rows_of right_lists)
  right_rises a = searchable_from_sorted (lists_total value_total)
      (row_key right (right_columns keys)) (rows_of right_lists)
      (row_key left (left_columns keys) a)
      (keys_sorted right (right_columns keys) right_lists right_side)

  -- what is below a left row's key is below those of the later ones
  pub passed_from : (number : ℕ) (e : List Value) (count : ℕ) → number < length (rows_of left_lists)
      → AreBelow left right keys (get_or (rows_of left_lists) number e) (rows_of right_lists) count
      → ArePassed left right keys (rows_of left_lists) (rows_of right_lists) number count
  passed_from number e count within below k d low high i f zero' le =
      let lefts = rows_of left_lists in
      let b = get_or (rows_of right_lists) i f in
      let same : get_or lefts number e ≡ get_or lefts number d = get_or_default lefts number e d
      within in
      let rise = searchable_from_sorted (lists_total value_total) (row_key left (left_columns keys))
      lefts (row_key right (right_columns keys) b)
      (keys_sorted left (left_columns keys) left_lists left_side) number k d low high in
      above (key_order left right keys (get_or lefts number d) b)
      (key_order left right keys (get_or lefts k d) b) _ _
      ((lists_total value_total).antisymm (row_key right (right_columns keys) b)
      (row_key left (left_columns keys) (get_or lefts number d)))
      ((lists_total value_total).antisymm (row_key right (right_columns keys) b)
      (row_key left (left_columns keys) (get_or lefts k d)))
      rise (sym (ap (λ a. is_lt (key_order left right keys a b)) same) ∙ below i f zero' le)

-- What is arranged is arranged already.
pub arranged_again : (keys : List SortKey) (rows : List (List Value))
    → arranged false keys rows ≡ arranged false keys (arranged false keys rows)
arranged_again keys rows =
    bag_fixes (row_total keys) (row_exact keys) (sort_by (row_cmp keys) rows)
    (sort_by (row_cmp keys) (sort_by (row_cmp keys) rows))
    (sort_ascends (row_total keys) rows)
    (sort_ascends (row_total keys) (sort_by (row_cmp keys) rows))
    (λ row. sym (occurrences-sort (row_total keys) row (sort_by (row_cmp keys) rows)))

-- Arranged rows of a layout are a side of a merge.
pub arranged_side : (layout : List LayoutPart) (columns : List ColumnRef) (rows : List (List Value))
    (lists : List (List (List Value)))
    → lists ≡ arranged false (map (sort_key layout) columns) rows ∷ []
    → AllByRecursion (IsColumn layout) columns
    → AllByRecursion (IsRowIn layout) (rows_of lists)
    → IsSide layout columns lists
arranged_side layout columns rows lists is there fit =
    let sorts = map (sort_key layout) columns in
    let all : rows_of lists ≡ arranged false sorts rows =
    ap rows_of is ∙ append-nil (arranged false sorts rows) in
    record {
      one = ap length is;
      fit = fit;
      columns_there = there;
      in_order = all ∙ arranged_again sorts rows ∙ ap (arranged false sorts) (sym all);
    }

some_place : (f : ℕ → Option LayoutColumn) (place : Option ℕ) → IsSome (option_and_then f place)
    → IsSome place
some_place f None some = some
some_place f (Some place) some = refl

both_typed : (a b : Option LayoutColumn) → IsTrue (is_truth (compare_type a b))
    → IsSome a × IsSome b
both_typed None b pair = cc
both_typed (Some a) None pair = cc
both_typed (Some a) (Some b) pair = (refl, refl)

-- The sides of the keys of a merge are columns of the layouts.
pub pairs_there : (left right : List LayoutPart) (keys : List KeyPair)
    → AllByRecursion (IsPair left right) keys
    → AllByRecursion (IsColumn left) (left_columns keys)
    × AllByRecursion (IsColumn right) (right_columns keys)
pairs_there left right [] pairs = (tt, tt)
pairs_there left right (key ∷ keys) pairs =
    let typed = both_typed (column_type left key.build.var key.build.col)
    (column_type right key.probe.var key.probe.col) pairs.0 in
    let rest = pairs_there left right keys pairs.1 in (
      (some_place _ (column_place left key.build.var key.build.col) typed.0, rest.0),
      (some_place _ (column_place right key.probe.var key.probe.col) typed.1, rest.1),
    )
