-- What is known of a group of some rows and of further ones, joined, is what is known of it of all of them.
use Rattle.std.proofs.Common.{◌≡◌, ◌<◌, ◌≤◌, ℕ, ◌+◌, min, pos, ◌+ℤ◌, Bool, true, false, cond, List, [], ◌∷◌, ◌++◌, refl, sym, ap, ◌∙◌, subst, arith, length, map, filter, take, drop, length-append}
use Rattle.std.specs.Prelude.{int_lt, nat_lt}
use Rattle.std.specs.List.{AllByRecursion}
use Rattle.std.specs.Int.{w64, saturate_signed}
use Rattle.std.proofs.lemmas.List.{map-append, get_or-drop, drop-drop}
use Rattle.std.proofs.lemmas.List.Elements.{filter-append}
use Rattle.std.proofs.lemmas.Bool.{lt-ltb, le-ltb, ltb-true, ltb-false}
use Rattle.rows.specs.declared.value.Value.{Value}
use Rattle.rows.specs.declared.value.Value.TheVariants.{Null, Number}
use Rattle.rows.specs.Values.{column_of}
use Rattle.aggregate_op.specs.declared.fold.Fold.{Fold}
use Rattle.aggregate_op.specs.declared.fold.FoldOp.{FoldOp}
use Rattle.aggregate_op.specs.declared.fold.FoldOp.TheVariants.{Count, Min, Max, Sum}
use Rattle.aggregate_op.specs.Partials.{op_values, is_no_null, sum_of, number, high_part, low_part, least, greatest, part_of, parts_from, parts_of, most_rows, unless_too_many, known_of}
use Rattle.aggregate_op.specs.Joined.{joined, joined_known, joined_parts, no_parts, carried}
use Rattle.aggregate_op.specs.Stored.{IsStored, AreStored, IsStoredRow}
use Rattle.aggregate_op.proofs.Lesser.{no_nulls, least-append, greatest-append}
use Rattle.aggregate_op.proofs.Sums.{sum-append, sum_upto, carried_is, kept}

-- ---- an op's values

pub op_values-append : (fold : Fold) (k : ℕ) (xs ys : List (List Value)) → op_values fold k (xs ++ ys) ≡ op_values fold k xs ++ op_values fold k ys
op_values-append fold k xs ys =
    ap (filter is_no_null) (map-append (λ row. column_of row (fold.groups + k)) xs ys)
    ∙ filter-append is_no_null (map (λ row. column_of row (fold.groups + k)) xs) (map (λ row. column_of row (fold.groups + k)) ys)

pub few_values : (fold : Fold) (k : ℕ) (rows : List (List Value)) → length (op_values fold k rows) ≤ length rows
few_values fold k [] = omega arith
few_values fold k (row ∷ rows) = by (is_no_null (column_of row (fold.groups + k))) (few_values fold k rows) where
  by : (b : Bool) → length (op_values fold k rows) ≤ length rows → length (cond b (column_of row (fold.groups + k) ∷ op_values fold k rows) (op_values fold k rows)) ≤ length (row ∷ rows)
  by true rest = omega (arith, rest)
  by false rest = omega (arith, rest)

pub all_same : {X : Type 0} (P Q : X → Type 0) → ((x : X) → P x → Q x) → (xs : List X) → AllByRecursion P xs → AllByRecursion Q xs
all_same P Q each [] all = tt
all_same P Q each (x ∷ xs) all = (each x all.0, all_same P Q each xs all.1)

pub first_behind : (row : List Value) (n : ℕ) → column_of (drop n row) 0 ≡ column_of row n
first_behind row n = get_or-drop n row 0 Null ∙ ap (column_of row) (let e : n + 0 ≡ n = omega arith in e)

pub one_more_behind : (row : List Value) (m n : ℕ) → drop 1 (drop (m + n) row) ≡ drop (m + (n + 1)) row
one_more_behind row m n = drop-drop 1 (m + n) row ∙ ap (λ k. drop k row) (omega arith)

-- the numbers of ops that stand behind others
abbrev pub AreStoredFrom : Fold → ℕ → List FoldOp → List (List Value) → Type 0
AreStoredFrom fold k ops rows = AllByRecursion (λ row. AreStored ops (drop (fold.groups + k) row)) rows

values_stored : (fold : Fold) (k : ℕ) (rows : List (List Value)) → AllByRecursion (λ row. IsStored (column_of row (fold.groups + k))) rows → AllByRecursion IsStored (op_values fold k rows)
values_stored fold k [] all = tt
values_stored fold k (row ∷ rows) all = elim (is_no_null (column_of row (fold.groups + k))) as (λ b. AllByRecursion IsStored (cond b (column_of row (fold.groups + k) ∷ op_values fold k rows) (op_values fold k rows))) [
  | true ↦ (all.0, values_stored fold k rows all.1)
  | false ↦ values_stored fold k rows all.1
]

pub first_stored : (fold : Fold) (k : ℕ) (ops : List FoldOp) (rows : List (List Value)) → AreStoredFrom fold k (Sum ∷ ops) rows → AllByRecursion IsStored (op_values fold k rows)
first_stored fold k ops rows all = values_stored fold k rows
    (all_same (λ row. AreStored (Sum ∷ ops) (drop (fold.groups + k) row)) (λ row. IsStored (column_of row (fold.groups + k))) (λ row s. subst IsStored (first_behind row (fold.groups + k)) s.0) rows all)

pub others_stored : (fold : Fold) (k : ℕ) (ops : List FoldOp) (rows : List (List Value)) → AllByRecursion (λ row. AreStored ops (drop 1 (drop (fold.groups + k) row))) rows → AreStoredFrom fold (k + 1) ops rows
others_stored fold k ops rows all =
    all_same (λ row. AreStored ops (drop 1 (drop (fold.groups + k) row))) (λ row. AreStored ops (drop (fold.groups + (k + 1)) row)) (λ row s. subst (AreStored ops) (one_more_behind row fold.groups k) s) rows all

pub all_stored : (fold : Fold) (rows : List (List Value)) → AllByRecursion (IsStoredRow fold) rows → AreStoredFrom fold 0 fold.ops rows
all_stored fold rows all =
    all_same (IsStoredRow fold) (λ row. AreStored fold.ops (drop (fold.groups + 0) row)) (λ row s. subst (λ n. AreStored fold.ops (drop n row)) (let e : fold.groups ≡ fold.groups + 0 = omega arith in e) s) rows all

-- ---- the parts

abbrev pub many : ℕ
many = 281_474_976_710_656

numbers_added : (m n : ℕ) → m ≤ many → n ≤ many → saturate_signed w64 (pos m +ℤ pos n) ≡ pos (m + n)
numbers_added m n h k = kept (pos (m + n)) (omega (arith, h, k)) (omega arith)

module _ (fold : Fold) (xs ys : List (List Value)) (small1 : length xs < many) (small2 : length ys < many) where
  counts : (k : ℕ) → saturate_signed w64 (pos (length (op_values fold k xs)) +ℤ pos (length (op_values fold k ys))) ≡ pos (length (op_values fold k (xs ++ ys)))
  counts k =
      let m = few_values fold k xs in
      let n = few_values fold k ys in
      numbers_added (length (op_values fold k xs)) (length (op_values fold k ys)) (omega (arith, m, small1)) (omega (arith, n, small2))
      ∙ ap pos (sym (length-append (op_values fold k xs) (op_values fold k ys)) ∙ ap length (sym (op_values-append fold k xs ys)))

  sums : (k : ℕ) → AllByRecursion IsStored (op_values fold k xs) → AllByRecursion IsStored (op_values fold k ys) → carried (saturate_signed w64 (high_part (sum_of (op_values fold k xs)) +ℤ high_part (sum_of (op_values fold k ys)))) (saturate_signed w64 (low_part (sum_of (op_values fold k xs)) +ℤ low_part (sum_of (op_values fold k ys))))
      ≡ Number (high_part (sum_of (op_values fold k (xs ++ ys)))) ∷ Number (low_part (sum_of (op_values fold k (xs ++ ys)))) ∷ []
  sums k stored1 stored2 =
      let m = few_values fold k xs in
      let n = few_values fold k ys in
      carried_is (length (op_values fold k xs)) (length (op_values fold k ys)) (sum_of (op_values fold k xs)) (sum_of (op_values fold k ys))
      (sum_upto (op_values fold k xs) stored1) (sum_upto (op_values fold k ys) stored2)
      (omega (arith, m, small1)) (omega (arith, n, small2))
      ∙ ap (λ s. Number (high_part s) ∷ Number (low_part s) ∷ []) (sym (ap sum_of (op_values-append fold k xs ys) ∙ sum-append (op_values fold k xs) (op_values fold k ys)))

  parts_joined : (k : ℕ) (ops : List FoldOp) → AreStoredFrom fold k ops xs → AreStoredFrom fold k ops ys → joined_parts ops (parts_from fold k ops xs) (parts_from fold k ops ys) ≡ parts_from fold k ops (xs ++ ys)
  parts_joined k [] a b = refl
  parts_joined k (Count ∷ ops) a b = ap (λ n. Number n ∷ joined_parts ops (parts_from fold (k + 1) ops xs) (parts_from fold (k + 1) ops ys)) (counts k) ∙ ap (λ rest. number (length (op_values fold k (xs ++ ys))) ∷ rest) (parts_joined (k + 1) ops (others_stored fold k ops xs a) (others_stored fold k ops ys b))
  parts_joined k (Min ∷ ops) a b =
      ap (λ v. v ∷ joined_parts ops (parts_from fold (k + 1) ops xs) (parts_from fold (k + 1) ops ys)) (sym (ap least (op_values-append fold k xs ys) ∙ least-append (op_values fold k xs) (op_values fold k ys) (no_nulls (map (λ row. column_of row (fold.groups + k)) xs)) (no_nulls (map (λ row. column_of row (fold.groups + k)) ys))))
      ∙ ap (λ rest. least (op_values fold k (xs ++ ys)) ∷ rest) (parts_joined (k + 1) ops (others_stored fold k ops xs a) (others_stored fold k ops ys b))
  parts_joined k (Max ∷ ops) a b =
      ap (λ v. v ∷ joined_parts ops (parts_from fold (k + 1) ops xs) (parts_from fold (k + 1) ops ys)) (sym (ap greatest (op_values-append fold k xs ys) ∙ greatest-append (op_values fold k xs) (op_values fold k ys)))
      ∙ ap (λ rest. greatest (op_values fold k (xs ++ ys)) ∷ rest) (parts_joined (k + 1) ops (others_stored fold k ops xs a) (others_stored fold k ops ys b))
  parts_joined k (Sum ∷ ops) a b =
      ap (λ n. Number n ∷ (carried (saturate_signed w64 (high_part (sum_of (op_values fold k xs)) +ℤ high_part (sum_of (op_values fold k ys)))) (saturate_signed w64 (low_part (sum_of (op_values fold k xs)) +ℤ low_part (sum_of (op_values fold k ys)))) ++ joined_parts ops (parts_from fold (k + 1) ops xs) (parts_from fold (k + 1) ops ys))) (counts k)
      ∙ ap (λ p. number (length (op_values fold k (xs ++ ys))) ∷ (p ++ joined_parts ops (parts_from fold (k + 1) ops xs) (parts_from fold (k + 1) ops ys))) (sums k (first_stored fold k ops xs a) (first_stored fold k ops ys b))
      ∙ ap (λ rest. number (length (op_values fold k (xs ++ ys))) ∷ Number (high_part (sum_of (op_values fold k (xs ++ ys)))) ∷ Number (low_part (sum_of (op_values fold k (xs ++ ys)))) ∷ rest) (parts_joined (k + 1) ops (others_stored fold k ops xs (all_same (λ row. AreStored (Sum ∷ ops) (drop (fold.groups + k) row)) (λ row. AreStored ops (drop 1 (drop (fold.groups + k) row))) (λ row s. s.1) xs a)) (others_stored fold k ops ys (all_same (λ row. AreStored (Sum ∷ ops) (drop (fold.groups + k) row)) (λ row. AreStored ops (drop 1 (drop (fold.groups + k) row))) (λ row s. s.1) ys b)))

-- ---- the rows

pub front_is : {X : Type 0} (front rest : List X) (n : ℕ) → length front ≡ n → take n (front ++ rest) ≡ front
front_is front rest n e = subst (λ k. take k (front ++ rest) ≡ front) e (whole front rest) where
  whole : {X : Type 0} (front rest : List X) → take (length front) (front ++ rest) ≡ front
  whole [] rest = refl
  whole (x ∷ xs) rest = ap (λ l. x ∷ l) (whole xs rest)

pub rest_is : {X : Type 0} (front rest : List X) (n : ℕ) → length front ≡ n → drop n (front ++ rest) ≡ rest
rest_is front rest n e = subst (λ k. drop k (front ++ rest) ≡ rest) e (whole front rest) where
  whole : {X : Type 0} (front rest : List X) → drop (length front) (front ++ rest) ≡ rest
  whole [] rest = refl
  whole (x ∷ xs) rest = whole xs rest

pub told_apart : (rows : List (List Value)) → length rows < many → unless_too_many rows ≡ rows
told_apart rows h = ap (λ b. cond b rows []) (lt-ltb (length rows) many h)

pub too_many : (rows : List (List Value)) → many ≤ length rows → unless_too_many rows ≡ []
too_many rows h = ap (λ b. cond b rows []) (le-ltb (length rows) many h)

-- what is known of a group behind its values
abbrev known_part : Fold → List (List Value) → List Value
known_part fold rows = number (min (length rows) most_rows) ∷ parts_of fold (unless_too_many rows)

pub no_parts_is : (fold : Fold) (k : ℕ) (ops : List FoldOp) → parts_from fold k ops [] ≡ no_parts ops
no_parts_is fold k [] = refl
no_parts_is fold k (op ∷ ops) = ap (λ p. part_of op [] ++ p) (no_parts_is fold (k + 1) ops)

parts_joined_upto : (fold : Fold) (xs ys : List (List Value)) → AllByRecursion (IsStoredRow fold) xs → AllByRecursion (IsStoredRow fold) ys → (b : Bool) → nat_lt (min (length xs) many + min (length ys) many) many ≡ b
    → cond b (Number (pos (min (length xs) many + min (length ys) many)) ∷ joined_parts fold.ops (parts_of fold (unless_too_many xs)) (parts_of fold (unless_too_many ys))) (number most_rows ∷ no_parts fold.ops)
    ≡ known_part fold (xs ++ ys)
parts_joined_upto fold xs ys stored1 stored2 true e =
    let less : min (length xs) many + min (length ys) many < many = ltb-true (min (length xs) many + min (length ys) many) many e in
    let size : length (xs ++ ys) ≡ length xs + length ys = length-append xs ys in
    let small1 : length xs < many = omega (arith, less) in
    let small2 : length ys < many = omega (arith, less) in
    ap (λ p. Number (pos (min (length xs) many + min (length ys) many)) ∷ joined_parts fold.ops (parts_of fold p) (parts_of fold (unless_too_many ys))) (told_apart xs small1)
    ∙ ap (λ p. Number (pos (min (length xs) many + min (length ys) many)) ∷ joined_parts fold.ops (parts_of fold xs) (parts_of fold p)) (told_apart ys small2)
    ∙ ap (λ p. Number (pos (min (length xs) many + min (length ys) many)) ∷ p) (parts_joined fold xs ys small1 small2 0 fold.ops (all_stored fold xs stored1) (all_stored fold ys stored2))
    ∙ ap (λ n. number n ∷ parts_of fold (xs ++ ys)) (let same : min (length xs) many + min (length ys) many ≡ min (length (xs ++ ys)) many = omega (arith, less, size) in same)
    ∙ ap (λ p. number (min (length (xs ++ ys)) most_rows) ∷ parts_of fold p) (sym (told_apart (xs ++ ys) (omega (arith, less, size))))
parts_joined_upto fold xs ys stored1 stored2 false e =
    let more : many ≤ min (length xs) many + min (length ys) many = ltb-false (min (length xs) many + min (length ys) many) many e in
    let size : length (xs ++ ys) ≡ length xs + length ys = length-append xs ys in
    ap (λ p. number most_rows ∷ p) (sym (no_parts_is fold 0 fold.ops))
    ∙ ap (λ n. number n ∷ parts_of fold []) (let same : most_rows ≡ min (length (xs ++ ys)) many = omega (arith, more, size) in same)
    ∙ ap (λ p. number (min (length (xs ++ ys)) most_rows) ∷ parts_of fold p) (sym (too_many (xs ++ ys) (omega (arith, more, size))))

pub known_joined : (fold : Fold) (group : List Value) (xs ys : List (List Value)) → length group ≡ fold.groups → AllByRecursion (IsStoredRow fold) xs → AllByRecursion (IsStoredRow fold) ys
    → joined fold (known_of fold group xs) (known_of fold group ys) ≡ known_of fold group (xs ++ ys)
known_joined fold group xs ys width stored1 stored2 =
    ap (λ g. g ++ joined_known fold (drop fold.groups (known_of fold group xs)) (drop fold.groups (known_of fold group ys))) (front_is group (known_part fold xs) fold.groups width)
    ∙ ap (λ k. group ++ joined_known fold k (drop fold.groups (known_of fold group ys))) (rest_is group (known_part fold xs) fold.groups width)
    ∙ ap (λ k. group ++ joined_known fold (known_part fold xs) k) (rest_is group (known_part fold ys) fold.groups width)
    ∙ ap (λ k. group ++ k) (
    ap (λ n. cond (int_lt n (pos most_rows)) (Number n ∷ joined_parts fold.ops (parts_of fold (unless_too_many xs)) (parts_of fold (unless_too_many ys))) (number most_rows ∷ no_parts fold.ops))
    (numbers_added (min (length xs) many) (min (length ys) many) (omega arith) (omega arith))
    ∙ parts_joined_upto fold xs ys stored1 stored2 (nat_lt (min (length xs) many + min (length ys) many) many) refl)
