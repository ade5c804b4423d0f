-- The partial of rows in the order of their groups, a group at a time; and what a loop over a group's rows finds.
use Rattle.std.proofs.Common.{◌≡◌, ◌<◌, ◌≤◌, ℕ, suc, zero, ◌+◌, ℤ, ◌+ℤ◌, min, Bool, true, false, cond, List, [], ◌∷◌, ◌++◌, refl, sym, ap, ◌∙◌, subst, arith, length, map, filter, take, drop, get_or, append_assoc, append-nil, length-append, length-drop}
use Rattle.std.specs.Borrow.{Bor}
use Rattle.std.specs.Int.{w64, saturate_signed}
use Rattle.std.specs.List.{AllByRecursion, take-map, drop-map}
use Rattle.std.specs.List.Sorted.{IsSortedBy}
use Rattle.std.proofs.lemmas.Int.{ints}
use Rattle.std.proofs.lemmas.List.{map-append, take_more, drop-drop, take-append-drop, length-map}
use Rattle.std.proofs.lemmas.List.Elements.{filter-append}
use Rattle.std.proofs.lemmas.Cmp.{upto, tied_itself, on_total}
use Rattle.std.specs.Cmp.{IsTotalOrder}
use Rattle.std.specs.declared.cmp.Ordering.{Ordering}
use Rattle.std.specs.declared.cmp.Ordering.TheVariants.{Less, Equal, Greater}
use Rattle.std.specs.Ordering.{is_gt, is_eq, is_lt, ordering_reverse}
use Rattle.lists.specs.Arranged.{Ascends, occurrences, one_if, distinct_by}
use Rattle.lists.proofs.Arranging.{bag_fixes, sort_ascends, ascends_from_sorted}
use Rattle.rows.specs.declared.value.Value.{Value}
use Rattle.rows.specs.declared.value.Value.TheVariants.{Null, Number, Word, Truth}
use Rattle.rows.specs.Values.{column_of, is_null}
use Rattle.rows.proofs.Orders.{row_total, row_exact}
use Rattle.aggregate_op.specs.declared.fold.Fold.{Fold}
use Rattle.aggregate_op.specs.declared.fold.FoldOp.{FoldOp}
use Rattle.aggregate_op.specs.declared.fold.FoldOp.TheVariants.{Count, Min, Max, Sum}
use Rattle.aggregate_op.specs.Partials.{group_of, groups_of, is_member, members, is_no_null, integer_in, sum_of, high_part, low_part, least, greatest, part_of, parts_from, parts_of, unless_too_many, known_of, group_row, partial}
use Rattle.aggregate_op.specs.Joined.{carried, lesser, greater, no_parts}
use Rattle.aggregate_op.specs.Runs.{group_order, leading, seen, column_values, parts_at, sum_part, IsStoredColumn, AreStoredAt}
use Rattle.aggregate_op.specs.Stored.{IsStored, AreStored}
use Rattle.aggregate_op.proofs.Lesser.{all_sort, least-append, greatest-append, no_nulls}
use Rattle.aggregate_op.proofs.Sums.{integer_upto, sum_upto, carried_is, sum-append}
use Rattle.aggregate_op.proofs.JoinedRows.{first_behind, many, no_parts_is, told_apart, too_many}
use Rattle.aggregate_op.proofs.MergedRows.{all_append, all_distinct, even_alike, same_if, less_if, group_cmp, groups_often, members-append}

-- ---- the rows of the first group, and those behind them

equal_not_less : (r : Ordering) → r ≡ Less → is_eq r ≡ false
equal_not_less Less h = refl
equal_not_less Equal h = cc
equal_not_less Greater h = cc

below_not_above : (r s : Ordering) → s ≡ ordering_reverse r → r ≡ Less → is_gt s ≡ true
below_not_above Less s e h = ap is_gt e
below_not_above Equal s e h = cc
below_not_above Greater s e h = cc

none_of : {X : Type 0} (test : X → Bool) (xs : List X) → AllByRecursion (λ x. test x ≡ false) xs → filter test xs ≡ []
none_of test [] all = refl
none_of test (x ∷ xs) all = ap (λ b. cond b (x ∷ filter test xs) (filter test xs)) all.0 ∙ none_of test xs all.1

each_of : {X : Type 0} (test : X → Bool) (xs : List X) → AllByRecursion (λ x. test x ≡ true) xs → filter test xs ≡ xs
each_of test [] all = refl
each_of test (x ∷ xs) all = ap (λ b. cond b (x ∷ filter test xs) (filter test xs)) all.0 ∙ ap (λ l. x ∷ l) (each_of test xs all.1)

all_map : {X : Type 0} {P Q : X → Type 0} (each : (x : X) → P x → Q x) (xs : List X) → AllByRecursion P xs → AllByRecursion Q xs
all_map each [] all = tt
all_map each (x ∷ xs) all = (each x all.0, all_map each xs all.1)

map_all : {X Y : Type 0} (P : X → Type 0) (f g : X → Y) → ((x : X) → P x → f x ≡ g x) → (xs : List X) → AllByRecursion P xs → map f xs ≡ map g xs
map_all P f g each [] all = refl
map_all P f g each (x ∷ xs) all = λ i. each x all.0 i ∷ map_all P f g each xs all.1 i

above_more : (a b c : List Value) → group_cmp a b ≡ Less → is_gt (group_cmp b c) ≡ false → group_cmp a c ≡ Less
above_more a b c h k = less_if (group_cmp a c) (upto (row_total []) a b c (ap is_gt h) k) (by (is_eq (group_cmp a c)) refl) where
  by : (e : Bool) → is_eq (group_cmp a c) ≡ e → is_eq (group_cmp a c) ≡ false
  by false e = e
  by true e =
      let back : is_gt (group_cmp b a) ≡ true = below_not_above (group_cmp a b) (group_cmp b a) ((row_total []).antisymm b a) h in
      let same : a ≡ c = same_if a c e in
      let turned : is_gt (group_cmp b a) ≡ false = ap (λ z. is_gt (group_cmp b z)) same ∙ k in
      cc

module _ (fold : Fold) where
  groups_order : IsTotalOrder (group_order fold)
  groups_order = on_total (group_of fold) (row_total [])

  all_seen : (P : List Value → Type 0) (rows : List (Bor (List Value))) → AllByRecursion (λ row. P (seen row)) rows → AllByRecursion P (map seen rows)
  all_seen P [] all = tt
  all_seen P (row ∷ rows) all = (all.0, all_seen P rows all.1)

  seen_up : (rows : List (Bor (List Value))) → Ascends (λ a b. group_order fold (seen a) (seen b)) rows → Ascends (group_order fold) (map seen rows)
  seen_up [] up = tt
  seen_up (row ∷ rows) up = (all_seen (λ r. is_gt (group_order fold (seen row) r) ≡ false) rows up.0, seen_up rows up.1)

  -- what the sort leaves
  pub ascends_seen : (rows : List (Bor (List Value))) → IsSortedBy (λ a b. is_lt (group_order fold (seen a) (seen b))) rows → Ascends (group_order fold) (map seen rows)
  ascends_seen rows up = seen_up rows (ascends_from_sorted (on_total seen groups_order) rows up)

  ascends_drop : (n : ℕ) (rows : List (List Value)) → Ascends (group_order fold) rows → Ascends (group_order fold) (drop n rows)
  ascends_drop zero rows up = up
  ascends_drop (suc n) [] up = tt
  ascends_drop (suc n) (row ∷ rows) up = ascends_drop n rows up.1

  abbrev IsOf : List Value → List Value → Type 0
  IsOf g row = is_member fold g row ≡ true

  abbrev IsAbove : List Value → List Value → Type 0
  IsAbove g row = group_cmp g (group_of fold row) ≡ Less

  front_is_of : (g : List Value) (rows : List (List Value)) → AllByRecursion (IsOf g) (take (leading fold g rows) rows)
  front_is_of g [] = tt
  front_is_of g (row ∷ rows) = by (front_is_of g rows) (is_member fold g row) refl where
    by : AllByRecursion (IsOf g) (take (leading fold g rows) rows) → (b : Bool) → is_member fold g row ≡ b → AllByRecursion (IsOf g) (take (cond b (suc (leading fold g rows)) 0) (row ∷ rows))
    by rest true e = (e, rest)
    by rest false e = tt

  all_above : (g row : List Value) (rows : List (List Value)) → IsAbove g row → AllByRecursion (λ r. is_gt (group_order fold row r) ≡ false) rows → AllByRecursion (IsAbove g) rows
  all_above g row rows h all = all_map (λ r k. above_more g (group_of fold row) (group_of fold r) h k) rows all

  back_is_above : (g : List Value) (rows : List (List Value)) → Ascends (group_order fold) rows → AllByRecursion (λ r. is_gt (group_cmp g (group_of fold r)) ≡ false) rows
      → AllByRecursion (IsAbove g) (drop (leading fold g rows) rows)
  back_is_above g [] up from = tt
  back_is_above g (row ∷ rows) up from = by (back_is_above g rows up.1 from.1) (is_member fold g row) refl where
    by : AllByRecursion (IsAbove g) (drop (leading fold g rows) rows) → (b : Bool) → is_member fold g row ≡ b → AllByRecursion (IsAbove g) (drop (cond b (suc (leading fold g rows)) 0) (row ∷ rows))
    by rest true e = rest
    by rest false e =
        let here : IsAbove g row = less_if (group_cmp g (group_of fold row)) from.0 (even_alike g (group_of fold row) ∙ e) in
        (here, all_above g row rows here up.0)

  -- rows of a group before rows of greater ones
  module _ (g : List Value) (run rest : List (List Value)) (some : 0 < length run) (of : AllByRecursion (IsOf g) run) (above : AllByRecursion (IsAbove g) rest) where
    not_of : AllByRecursion (λ r. is_member fold g r ≡ false) rest
    not_of = all_map (λ r h. even_alike (group_of fold r) g ∙ equal_not_less (group_cmp g (group_of fold r)) h) rest above

    members_first : members fold g (run ++ rest) ≡ run
    members_first = members-append fold run rest g ∙ ap (λ ms. ms ++ members fold g rest) (each_of (is_member fold g) run of) ∙ ap (λ ms. run ++ ms) (none_of (is_member fold g) rest not_of) ∙ append-nil run

    run_not_of : (z : List Value) → is_eq (group_cmp z g) ≡ false → AllByRecursion (λ r. is_member fold z r ≡ false) run
    run_not_of z h = all_map (λ r e. ap (λ u. is_eq (group_cmp u z)) (same_if (group_of fold r) g e) ∙ even_alike g z ∙ h) run of

    members_other : (z : List Value) → is_eq (group_cmp z g) ≡ false → members fold z (run ++ rest) ≡ members fold z rest
    members_other z h = members-append fold run rest z ∙ ap (λ ms. ms ++ members fold z rest) (none_of (is_member fold z) run (run_not_of z h))

    groups_above : AllByRecursion (λ u. group_cmp g u ≡ Less) (groups_of fold rest)
    groups_above = all_sort group_cmp (λ u. group_cmp g u ≡ Less) (distinct_by group_cmp (map (group_of fold) rest)) (all_distinct group_cmp (λ u. group_cmp g u ≡ Less) (map (group_of fold) rest) (mapped rest above)) where
      mapped : (rows : List (List Value)) → AllByRecursion (IsAbove g) rows → AllByRecursion (λ u. group_cmp g u ≡ Less) (map (group_of fold) rows)
      mapped [] all = tt
      mapped (r ∷ rs) all = (all.0, mapped rs all.1)

    often : (z : List Value) → occurrences group_cmp z (groups_of fold (run ++ rest)) ≡ one_if (is_eq (group_cmp z g)) + occurrences group_cmp z (groups_of fold rest)
    often z = groups_often fold z (run ++ rest) ∙ by (is_eq (group_cmp z g)) refl ∙ ap (λ n. one_if (is_eq (group_cmp z g)) + n) (sym (groups_often fold z rest)) where
      by : (b : Bool) → is_eq (group_cmp z g) ≡ b → min (length (members fold z (run ++ rest))) 1 ≡ one_if (is_eq (group_cmp z g)) + min (length (members fold z rest)) 1
      by true e =
          let same : z ≡ g = same_if z g e in
          let one : one_if (is_eq (group_cmp z g)) ≡ 1 = ap one_if e in
          let all : length (members fold z (run ++ rest)) ≡ length run = ap (λ u. length (members fold u (run ++ rest))) same ∙ ap length members_first in
          let none : length (members fold z rest) ≡ 0 = ap (λ u. length (members fold u rest)) same ∙ ap length (none_of (is_member fold g) rest not_of) in
          omega (arith, one, all, none, some)
      by false e =
          let none : one_if (is_eq (group_cmp z g)) ≡ 0 = ap one_if e in
          let all : length (members fold z (run ++ rest)) ≡ length (members fold z rest) = ap length (members_other z e) in
          omega (arith, none, all)

    groups_first : groups_of fold (run ++ rest) ≡ g ∷ groups_of fold rest
    groups_first =
        bag_fixes (row_total []) (row_exact []) (groups_of fold (run ++ rest)) (g ∷ groups_of fold rest)
        (sort_ascends (row_total []) (distinct_by group_cmp (map (group_of fold) (run ++ rest))))
        (all_map (λ u h. ap is_gt h) (groups_of fold rest) groups_above, sort_ascends (row_total []) (distinct_by group_cmp (map (group_of fold) rest)))
        often

    run_first : partial fold (run ++ rest) ≡ known_of fold g run ∷ partial fold rest
    run_first =
        ap (map (group_row fold (run ++ rest))) groups_first
        ∙ ap (λ ms. known_of fold g ms ∷ map (group_row fold (run ++ rest)) (groups_of fold rest)) members_first
        ∙ ap (λ rows. known_of fold g run ∷ rows)
        (map_all (λ u. group_cmp g u ≡ Less) (group_row fold (run ++ rest)) (group_row fold rest) (λ u h. ap (known_of fold u) (members_other u (even_alike u g ∙ equal_not_less (group_cmp g u) h))) (groups_of fold rest) groups_above)

  of_itself : (x : List Value) → is_member fold (group_of fold x) x ≡ true
  of_itself x = ap is_eq (tied_itself (row_total []) (group_of fold x))

  -- the step of a loop over the groups
  module _ (x : List Value) (xs : List (List Value)) (up : Ascends (group_order fold) (x ∷ xs)) where
    abbrev n : ℕ
    n = leading fold (group_of fold x) (x ∷ xs)

    some_lead : 0 < length (take n (x ∷ xs))
    some_lead = subst (λ b. 0 < length (take (cond b (suc (leading fold (group_of fold x) xs)) 0) (x ∷ xs))) (sym (of_itself x)) (omega arith)

    from_first : AllByRecursion (λ r. is_gt (group_cmp (group_of fold x) (group_of fold r)) ≡ false) (x ∷ xs)
    from_first = (ap is_gt (tied_itself (row_total []) (group_of fold x)), up.0)

    pub partial_step : partial fold (x ∷ xs) ≡ known_of fold (group_of fold x) (take n (x ∷ xs)) ∷ partial fold (drop n (x ∷ xs))
    partial_step =
        ap (partial fold) (sym (take-append-drop n (x ∷ xs)))
        ∙ run_first (group_of fold x) (take n (x ∷ xs)) (drop n (x ∷ xs)) some_lead (front_is_of (group_of fold x) (x ∷ xs)) (back_is_above (group_of fold x) (x ∷ xs) up from_first)

    pub up_behind : Ascends (group_order fold) (drop n (x ∷ xs))
    up_behind = ascends_drop n (x ∷ xs) up

  pub leading_upto : (g : List Value) (rows : List (List Value)) → leading fold g rows ≤ length rows
  leading_upto g [] = omega arith
  leading_upto g (row ∷ rows) = elim (is_member fold g row) as (λ b. cond b (suc (leading fold g rows)) 0 ≤ length (row ∷ rows)) [
    | true ↦ omega (arith, leading_upto g rows)
    | false ↦ omega arith
  ]

-- ---- a column's values, one row more

module _ (column : ℕ) where
  values_more : (rows : List (List Value)) (row : List Value) → column_values column (rows ++ row ∷ []) ≡ column_values column rows ++ filter is_no_null (column_of row column ∷ [])
  values_more rows row =
      ap (filter is_no_null) (map-append (λ r. column_of r column) rows (row ∷ []))
      ∙ filter-append is_no_null (map (λ r. column_of r column) rows) (column_of row column ∷ [])

  values_upto : (rows : List (List Value)) → length (column_values column rows) ≤ length rows
  values_upto [] = omega arith
  values_upto (row ∷ rows) = elim (is_no_null (column_of row column)) as (λ b. length (cond b (column_of row column ∷ column_values column rows) (column_values column rows)) ≤ length (row ∷ rows)) [
    | true ↦ omega (arith, values_upto rows)
    | false ↦ omega (arith, values_upto rows)
  ]

alone_least : (v : Value) → least (filter is_no_null (v ∷ [])) ≡ v
alone_least Null = refl
alone_least (Number n) = refl
alone_least (Word w) = refl
alone_least (Truth t) = refl

alone_greatest : (v : Value) → greatest (filter is_no_null (v ∷ [])) ≡ v
alone_greatest Null = refl
alone_greatest (Number n) = refl
alone_greatest (Word w) = refl
alone_greatest (Truth t) = refl

alone_sum : (v : Value) → sum_of (filter is_no_null (v ∷ [])) ≡ integer_in v
alone_sum Null = refl
alone_sum (Number n) = omega (arith, ints)
alone_sum (Word w) = refl
alone_sum (Truth t) = refl

pub least_more : (column : ℕ) (rows : List (List Value)) (row : List Value) → least (column_values column (rows ++ row ∷ [])) ≡ lesser (least (column_values column rows)) (column_of row column)
least_more column rows row =
    ap least (values_more column rows row)
    ∙ least-append (column_values column rows) (filter is_no_null (column_of row column ∷ [])) (no_nulls (map (λ r. column_of r column) rows)) (no_nulls (column_of row column ∷ []))
    ∙ ap (lesser (least (column_values column rows))) (alone_least (column_of row column))

pub greatest_more : (column : ℕ) (rows : List (List Value)) (row : List Value) → greatest (column_values column (rows ++ row ∷ [])) ≡ greater (greatest (column_values column rows)) (column_of row column)
greatest_more column rows row =
    ap greatest (values_more column rows row)
    ∙ greatest-append (column_values column rows) (filter is_no_null (column_of row column ∷ []))
    ∙ ap (greater (greatest (column_values column rows))) (alone_greatest (column_of row column))

pub count_none : (column : ℕ) (rows : List (List Value)) (row : List Value) → is_null (column_of row column) ≡ true → length (column_values column (rows ++ row ∷ [])) ≡ length (column_values column rows)
count_none column rows row e = ap length (values_more column rows row) ∙ by (column_of row column) e where
  by : (v : Value) → is_null v ≡ true → length (column_values column rows ++ filter is_no_null (v ∷ [])) ≡ length (column_values column rows)
  by Null h = ap length (append-nil (column_values column rows))
  by (Number n) h = cc
  by (Word w) h = cc
  by (Truth t) h = cc

pub count_one : (column : ℕ) (rows : List (List Value)) (row : List Value) → is_null (column_of row column) ≡ false → length (column_values column (rows ++ row ∷ [])) ≡ length (column_values column rows) + 1
count_one column rows row e = ap length (values_more column rows row) ∙ by (column_of row column) e where
  by : (v : Value) → is_null v ≡ false → length (column_values column rows ++ filter is_no_null (v ∷ [])) ≡ length (column_values column rows) + 1
  by Null h = cc
  by (Number n) h = length-append (column_values column rows) (Number n ∷ [])
  by (Word w) h = length-append (column_values column rows) (Word w ∷ [])
  by (Truth t) h = length-append (column_values column rows) (Truth t ∷ [])

column_stored : (column : ℕ) (rows : List (List Value)) → AllByRecursion (λ row. IsStored (column_of row column)) rows → AllByRecursion IsStored (column_values column rows)
column_stored column [] all = tt
column_stored column (row ∷ rows) all = elim (is_no_null (column_of row column)) as (λ b. AllByRecursion IsStored (cond b (column_of row column ∷ column_values column rows) (column_values column rows))) [
  | true ↦ (all.0, column_stored column rows all.1)
  | false ↦ column_stored column rows all.1
]

module _ (column : ℕ) (rows : List (List Value)) (row : List Value) (stored : AllByRecursion (λ r. IsStored (column_of r column)) rows) (here : IsStored (column_of row column)) where
  pub stored_more : AllByRecursion (λ r. IsStored (column_of r column)) (rows ++ row ∷ [])
  stored_more = all_append (λ r. IsStored (column_of r column)) rows (row ∷ []) stored (here, tt)

  abbrev value : Value
  value = column_of row column

  abbrev values : List Value
  values = column_values column rows

  total_more : sum_of (column_values column (rows ++ row ∷ [])) ≡ sum_of values +ℤ integer_in value
  total_more = ap sum_of (values_more column rows row) ∙ sum-append values (filter is_no_null (value ∷ [])) ∙ ap (λ z. sum_of values +ℤ z) (alone_sum value)

  pub sum_more : (high low : ℤ) (next : List Value) → (length rows < many → Number high ∷ Number low ∷ [] ≡ sum_part values)
      → next ≡ carried (saturate_signed w64 (high +ℤ high_part (integer_in value))) (saturate_signed w64 (low +ℤ low_part (integer_in value)))
      → length (rows ++ row ∷ []) < many → next ≡ sum_part (column_values column (rows ++ row ∷ []))
  sum_more high low next so_far e small =
      let longer : length (rows ++ row ∷ []) ≡ length rows + 1 = length-append rows (row ∷ []) in
      let fewer = values_upto column rows in
      let before : Number high ∷ Number low ∷ [] ≡ sum_part values = so_far (omega (arith, longer, small)) in
      let highs : high ≡ high_part (sum_of values) = cc in
      let lows : low ≡ low_part (sum_of values) = cc in
      e
      ∙ ap (λ h. carried (saturate_signed w64 (h +ℤ high_part (integer_in value))) (saturate_signed w64 (low +ℤ low_part (integer_in value)))) highs
      ∙ ap (λ l. carried (saturate_signed w64 (high_part (sum_of values) +ℤ high_part (integer_in value))) (saturate_signed w64 (l +ℤ low_part (integer_in value)))) lows
      ∙ carried_is (length values) 1 (sum_of values) (integer_in value) (sum_upto values (column_stored column rows stored)) (integer_upto value here) (omega (arith, longer, small, fewer)) (omega arith)
      ∙ ap (λ z. Number (high_part z) ∷ Number (low_part z) ∷ []) (sym total_more)

-- ---- the columns of all ops

pub parts_by_column : (fold : Fold) (k : ℕ) (ops : List FoldOp) (rows : List (List Value)) → parts_at (fold.groups + k) ops rows ≡ parts_from fold k ops rows
parts_by_column fold k [] rows = refl
parts_by_column fold k (op ∷ ops) rows =
    ap (λ parts. part_of op (column_values (fold.groups + k) rows) ++ parts) (ap (λ n. parts_at n ops rows) (let e : fold.groups + k + 1 ≡ fold.groups + (k + 1) = omega arith in e) ∙ parts_by_column fold (k + 1) ops rows)

one_behind : (row : List Value) (column : ℕ) → drop (column + 1) row ≡ drop 1 (drop column row)
one_behind row column = sym (drop-drop 1 column row ∙ ap (λ k. drop k row) (omega arith))

pub none_stored : (column : ℕ) (rows : List (List Value)) → AreStoredAt column [] rows
none_stored column [] = tt
none_stored column (row ∷ rows) = (tt, none_stored column rows)

pub one_stored : (op : FoldOp) (ops : List FoldOp) (column : ℕ) (rows : List (List Value)) → IsStoredColumn op column rows → AreStoredAt (column + 1) ops rows → AreStoredAt column (op ∷ ops) rows
one_stored op ops column [] here all = tt
one_stored Count ops column (row ∷ rows) here all = (subst (AreStored ops) (one_behind row column) all.0, one_stored Count ops column rows here all.1)
one_stored Min ops column (row ∷ rows) here all = (subst (AreStored ops) (one_behind row column) all.0, one_stored Min ops column rows here all.1)
one_stored Max ops column (row ∷ rows) here all = (subst (AreStored ops) (one_behind row column) all.0, one_stored Max ops column rows here all.1)
one_stored Sum ops column (row ∷ rows) here all =
    ((subst IsStored (sym (first_behind row column)) here.0, subst (AreStored ops) (one_behind row column) all.0), one_stored Sum ops column rows here.1 all.1)

-- ---- steps of loops over rows where they stand

module _ (rows : List (Bor (List Value))) (i : ℕ) (d : Bor (List Value)) (h : i < length rows) where
  abbrev before : List (List Value)
  before = map seen (take i rows)

  pub seen_more : map seen (take (i + 1) rows) ≡ before ++ seen (get_or rows i d) ∷ []
  seen_more = ap (map seen) (take_more rows i d h) ∙ map-append seen (take i rows) (get_or rows i d ∷ [])

  module _ (column : ℕ) where
    pub least_step : (found here next : List Value) → column_of found 0 ≡ least (column_values column before) → here ≡ drop column (seen (get_or rows i d))
        → column_of next 0 ≡ lesser (column_of found 0) (column_of here 0) → column_of next 0 ≡ least (column_values column (map seen (take (i + 1) rows)))
    least_step found here next so_far e f =
        f
        ∙ ap (λ v. lesser v (column_of here 0)) so_far
        ∙ ap (λ l. lesser (least (column_values column before)) (column_of l 0)) e
        ∙ ap (lesser (least (column_values column before))) (first_behind (seen (get_or rows i d)) column)
        ∙ sym (least_more column before (seen (get_or rows i d)))
        ∙ ap (λ rs. least (column_values column rs)) (sym seen_more)

    pub greatest_step : (found here next : List Value) → column_of found 0 ≡ greatest (column_values column before) → here ≡ drop column (seen (get_or rows i d))
        → column_of next 0 ≡ greater (column_of found 0) (column_of here 0) → column_of next 0 ≡ greatest (column_values column (map seen (take (i + 1) rows)))
    greatest_step found here next so_far e f =
        f
        ∙ ap (λ v. greater v (column_of here 0)) so_far
        ∙ ap (λ l. greater (greatest (column_values column before)) (column_of l 0)) e
        ∙ ap (greater (greatest (column_values column before))) (first_behind (seen (get_or rows i d)) column)
        ∙ sym (greatest_more column before (seen (get_or rows i d)))
        ∙ ap (λ rs. greatest (column_values column rs)) (sym seen_more)

    pub skipped_step : (count : ℕ) → count ≡ length (column_values column before) → is_null (column_of (seen (get_or rows i d)) column) ≡ true → count ≡ length (column_values column (map seen (take (i + 1) rows)))
    skipped_step count so_far e = so_far ∙ sym (count_none column before (seen (get_or rows i d)) e) ∙ ap (λ rs. length (column_values column rs)) (sym seen_more)

    pub counted_step : (count : ℕ) → count ≡ length (column_values column before) → is_null (column_of (seen (get_or rows i d)) column) ≡ false → count + 1 ≡ length (column_values column (map seen (take (i + 1) rows)))
    counted_step count so_far e = ap (λ n. n + 1) so_far ∙ sym (count_one column before (seen (get_or rows i d)) e) ∙ ap (λ rs. length (column_values column rs)) (sym seen_more)

    module _ (stored : IsStoredColumn Sum column before) (here : IsStored (column_of (seen (get_or rows i d)) column)) where
      pub stored_step : IsStoredColumn Sum column (map seen (take (i + 1) rows))
      stored_step = subst (IsStoredColumn Sum column) (sym seen_more) (stored_more column before (seen (get_or rows i d)) stored here)

      pub sum_step : (high low : ℤ) (next : List Value) → (length before < many → Number high ∷ Number low ∷ [] ≡ sum_part (column_values column before))
          → next ≡ carried (saturate_signed w64 (high +ℤ high_part (integer_in (column_of (seen (get_or rows i d)) column)))) (saturate_signed w64 (low +ℤ low_part (integer_in (column_of (seen (get_or rows i d)) column))))
          → length (map seen (take (i + 1) rows)) < many → next ≡ sum_part (column_values column (map seen (take (i + 1) rows)))
      sum_step high low next so_far f =
          subst (λ rs. length rs < many → next ≡ sum_part (column_values column rs)) (sym seen_more)
          (sum_more column before (seen (get_or rows i d)) stored here high low next so_far f)

-- ---- the parts of all ops

pub stored_nothing : (column : ℕ) (ops : List FoldOp) (rows : List (List Value)) → length ops ≡ 0 → AreStoredAt column ops rows
stored_nothing column [] rows h = none_stored column rows
stored_nothing column (op ∷ ops) rows h = absurd (omega (arith, h))

pub stored_next : (op : FoldOp) (rest ops : List FoldOp) (column : ℕ) (rows : List (List Value)) → ops ≡ op ∷ rest → IsStoredColumn op column rows → AreStoredAt (column + 1) rest rows → AreStoredAt column ops rows
stored_next op rest ops column rows e here all = subst (λ o. AreStoredAt column o rows) (sym e) (one_stored op rest column rows here all)

pub parts_next : (op : FoldOp) (rest ops : List FoldOp) (column : ℕ) (rows : List (List Value)) (before middle after : List Value) → ops ≡ op ∷ rest
    → middle ≡ before ++ part_of op (column_values column rows) → after ≡ middle ++ parts_at (column + 1) rest rows → after ≡ before ++ parts_at column ops rows
parts_next op rest ops column rows before middle after e f g =
    g
    ∙ ap (λ m. m ++ parts_at (column + 1) rest rows) f
    ∙ append_assoc before (part_of op (column_values column rows)) (parts_at (column + 1) rest rows)
    ∙ ap (λ o. before ++ parts_at column o rows) (sym e)

module _ (fold : Fold) (rows : List (Bor (List Value))) where
  pub parts_told : length rows < many → parts_at fold.groups fold.ops (map seen rows) ≡ parts_of fold (unless_too_many (map seen rows))
  parts_told small =
      ap (λ n. parts_at n fold.ops (map seen rows)) (let e : fold.groups ≡ fold.groups + 0 = omega arith in e)
      ∙ parts_by_column fold 0 fold.ops (map seen rows)
      ∙ ap (parts_of fold) (sym (told_apart (map seen rows) (omega (arith, length-map rows seen, small))))

  pub parts_lost : many ≤ length rows → no_parts fold.ops ≡ parts_of fold (unless_too_many (map seen rows))
  parts_lost large = sym (no_parts_is fold 0 fold.ops) ∙ ap (parts_of fold) (sym (too_many (map seen rows) (omega (arith, length-map rows seen, large))))

-- ---- the step of a loop over groups of rows where they stand

module _ (fold : Fold) where
  pub lead_upto : (first : Bor (List Value)) (left : List (Bor (List Value))) → leading fold (group_of fold (seen first)) (map seen left) ≤ length left
  lead_upto first left = let h = leading_upto fold (group_of fold (seen first)) (map seen left) in omega (arith, h, length-map left seen)

  lead_some : (y : Bor (List Value)) (ys : List (Bor (List Value))) → 0 < leading fold (group_of fold (seen y)) (seen y ∷ map seen ys)
  lead_some y ys = subst (λ b. 0 < cond b (suc (leading fold (group_of fold (seen y)) (map seen ys))) 0) (sym (of_itself fold (seen y))) (omega arith)

  pub next_some : (first : Bor (List Value)) (left : List (Bor (List Value))) → 0 < length left → first ≡ get_or left 0 first → 0 < leading fold (group_of fold (seen first)) (map seen left)
  next_some first [] h at = absurd (omega (arith, h))
  next_some first (y ∷ ys) h at = subst (λ f. 0 < leading fold (group_of fold (seen f)) (seen y ∷ map seen ys)) (sym at) (lead_some y ys)

  seen_take : (n : ℕ) (left : List (Bor (List Value))) → take n (map seen left) ≡ map seen (take n left)
  seen_take n left = take-map seen n left

  seen_drop : (n : ℕ) (left : List (Bor (List Value))) → drop n (map seen left) ≡ map seen (drop n left)
  seen_drop n left = drop-map seen n left

  step_at : (y : Bor (List Value)) (ys : List (Bor (List Value))) (n : ℕ) → Ascends (group_order fold) (map seen (y ∷ ys)) → n ≡ leading fold (group_of fold (seen y)) (seen y ∷ map seen ys)
      → partial fold (map seen (y ∷ ys)) ≡ known_of fold (group_of fold (seen y)) (map seen (take n (y ∷ ys))) ∷ partial fold (map seen (drop n (y ∷ ys)))
  step_at y ys n up e =
      partial_step fold (seen y) (map seen ys) up
      ∙ ap (λ k. known_of fold (group_of fold (seen y)) (take k (map seen (y ∷ ys))) ∷ partial fold (drop k (map seen (y ∷ ys)))) (sym e)
      ∙ ap (λ rows. known_of fold (group_of fold (seen y)) rows ∷ partial fold (drop n (map seen (y ∷ ys)))) (seen_take n (y ∷ ys))
      ∙ ap (λ rows. known_of fold (group_of fold (seen y)) (map seen (take n (y ∷ ys))) ∷ partial fold rows) (seen_drop n (y ∷ ys))

  pub next_partial : (first : Bor (List Value)) (left : List (Bor (List Value))) (n : ℕ) → 0 < length left → first ≡ get_or left 0 first → Ascends (group_order fold) (map seen left) → n ≡ leading fold (group_of fold (seen first)) (map seen left)
      → partial fold (map seen left) ≡ known_of fold (group_of fold (seen first)) (map seen (take n left)) ∷ partial fold (map seen (drop n left))
  next_partial first [] n h at up e = absurd (omega (arith, h))
  next_partial first (y ∷ ys) n h at up e =
      subst (λ f. n ≡ leading fold (group_of fold (seen f)) (seen y ∷ map seen ys) → partial fold (map seen (y ∷ ys)) ≡ known_of fold (group_of fold (seen f)) (map seen (take n (y ∷ ys))) ∷ partial fold (map seen (drop n (y ∷ ys)))) (sym at)
      (λ k. step_at y ys n up k) e

  pub next_up : (left : List (Bor (List Value))) (n : ℕ) → Ascends (group_order fold) (map seen left) → Ascends (group_order fold) (map seen (drop n left))
  next_up left n up = subst (Ascends (group_order fold)) (seen_drop n left) (ascends_drop fold n (map seen left) up)

pub next_all : (P : List Value → Type 0) (left : List (Bor (List Value))) (n : ℕ) → AllByRecursion P (map seen (take n left)) → AllByRecursion P (map seen (drop n left)) → AllByRecursion P (map seen left)
next_all P left n front back =
    subst (AllByRecursion P) (sym (map-append seen (take n left) (drop n left)) ∙ ap (map seen) (take-append-drop n left)) (all_append P (map seen (take n left)) (map seen (drop n left)) front back)

-- a loop behind one more group: `left` are the rows from `done` on, `run` those of the first group among them
module _ (fold : Fold) (rows left run : List (Bor (List Value))) (done n m : ℕ) (first : Bor (List Value)) (is : left ≡ drop done rows) (h : done < length rows) (at : first ≡ get_or left 0 first)
    (e : n ≡ leading fold (group_of fold (seen first)) (map seen left)) (taken : run ≡ take n left) (size : m ≡ n) where
  some_left : 0 < length left
  some_left = let k : length left ≡ length (drop done rows) = ap length is in omega (arith, k, length-drop done rows, h)

  behind : drop n left ≡ drop (done + m) rows
  behind = ap (drop n) is ∙ drop-drop n done rows ∙ ap (λ k. drop k rows) (omega (arith, size))

  pub run_upto : n ≤ length left
  run_upto = let k = lead_upto fold first left in omega (arith, k, e)

  pub run_some : 0 < m
  run_some = let k = next_some fold first left some_left at in omega (arith, k, e, size)

  pub done_upto : done + m ≤ length rows
  done_upto = let k : length left ≡ length (drop done rows) = ap length is in let l = run_upto in omega (arith, k, l, length-drop done rows, h, size)

  pub done_up : Ascends (group_order fold) (map seen (drop done rows)) → Ascends (group_order fold) (map seen (drop (done + m) rows))
  done_up up = subst (λ rs. Ascends (group_order fold) (map seen rs)) behind (next_up fold left n (subst (λ rs. Ascends (group_order fold) (map seen rs)) (sym is) up))

  pub done_known : (found : List (List Value)) (known : List Value) → Ascends (group_order fold) (map seen (drop done rows))
      → found ++ partial fold (map seen (drop done rows)) ≡ partial fold (map seen rows) → known ≡ known_of fold (group_of fold (seen first)) (map seen run)
      → (found ++ known ∷ []) ++ partial fold (map seen (drop (done + m) rows)) ≡ partial fold (map seen rows)
  done_known found known up so_far k =
      append_assoc found (known ∷ []) (partial fold (map seen (drop (done + m) rows)))
      ∙ ap (λ row. found ++ row ∷ partial fold (map seen (drop (done + m) rows))) k
      ∙ ap (λ rs. found ++ known_of fold (group_of fold (seen first)) (map seen rs) ∷ partial fold (map seen (drop (done + m) rows))) taken
      ∙ ap (λ rs. found ++ known_of fold (group_of fold (seen first)) (map seen (take n left)) ∷ partial fold (map seen rs)) (sym behind)
      ∙ ap (λ l. found ++ l) (sym (next_partial fold first left n some_left at (subst (λ rs. Ascends (group_order fold) (map seen rs)) (sym is) up) e))
      ∙ ap (λ rs. found ++ partial fold (map seen rs)) is
      ∙ so_far

  pub done_all : (P : List Value → Type 0) → AllByRecursion P (map seen run) → (AllByRecursion P (map seen (drop done rows)) → AllByRecursion P (map seen rows)) → AllByRecursion P (map seen (drop (done + m) rows)) → AllByRecursion P (map seen rows)
  done_all P here so_far more =
      so_far (subst (λ rs. AllByRecursion P (map seen rs)) is
      (next_all P left n (subst (λ rs. AllByRecursion P (map seen rs)) taken here) (subst (λ rs. AllByRecursion P (map seen rs)) (sym behind) more)))
