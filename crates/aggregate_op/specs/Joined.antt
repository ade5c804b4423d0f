-- What is known of a group of some rows and of the same group of further rows, as one; and two lists of it.
use Rattle.std.specs.Prelude.{ℕ, ℤ, pos, ◌+ℤ◌, ◌-ℤ◌, ◌^◌, int_lt, List, [], ◌∷◌, ◌++◌, take, drop, if◌then◌else◌}
use Rattle.std.specs.Int.{w64, saturate_signed}
use Rattle.std.specs.Ordering.{is_gt, is_lt, match_ordering}
use Rattle.std.specs.Cmp.Lexicographic.{slice_cmp}
use Rattle.rows.specs.declared.value.Value.{Value}
use Rattle.rows.specs.declared.value.Value.TheVariants.{Number}
use Rattle.rows.specs.Values.{value_cmp, column_of, is_null}
use Rattle.aggregate_op.specs.declared.fold.Fold.{Fold}
use Rattle.aggregate_op.specs.declared.fold.FoldOp.{FoldOp}
use Rattle.aggregate_op.specs.declared.fold.FoldOp.TheVariants.{Count, Min, Max, Sum}
use Rattle.aggregate_op.specs.Partials.{group_of, integer_in, most_rows, part_of}

-- ---- two values

-- the lesser and the greater of two values; null is passed over
abbrev pub lesser : Value → Value → Value
lesser a b = if is_null a then b else (if is_null b then a else (if is_gt (value_cmp a b) then b else a))

abbrev pub greater : Value → Value → Value
greater a b = if is_lt (value_cmp a b) then b else a

-- the sum of two numbers; no sum of parts leaves 64 bits
abbrev pub added : Value → Value → ℤ
added a b = saturate_signed w64 (integer_in a +ℤ integer_in b)

-- ---- two parts

-- a sum's part below 2^62, where what it holds more is carried over
abbrev pub carried : ℤ → ℤ → List Value
carried high low =
    if int_lt low (pos (2 ^ 62)) then Number high ∷ Number low ∷ []
    else Number (saturate_signed w64 (high +ℤ pos 1)) ∷ Number (low -ℤ pos (2 ^ 62)) ∷ []

-- how many values an op's part has
abbrev pub part_width : FoldOp → ℕ
part_width Sum = 3
part_width other = 1

-- the parts of an op that stand at the front of two lists
abbrev pub joined_part : FoldOp → List Value → List Value → List Value
joined_part Count left right = Number (added (column_of left 0) (column_of right 0)) ∷ []
joined_part Min left right = lesser (column_of left 0) (column_of right 0) ∷ []
joined_part Max left right = greater (column_of left 0) (column_of right 0) ∷ []
joined_part Sum left right =
    Number (added (column_of left 0) (column_of right 0))
    ∷ carried (added (column_of left 1) (column_of right 1)) (added (column_of left 2) (column_of right 2))

abbrev pub joined_parts : List FoldOp → List Value → List Value → List Value
joined_parts [] left right = []
joined_parts (op ∷ ops) left right = joined_part op left right ++ joined_parts ops (drop (part_width op) left) (drop (part_width op) right)

-- ---- two rows

-- the parts of no row
abbrev pub no_parts : List FoldOp → List Value
no_parts [] = []
no_parts (op ∷ ops) = part_of op [] ++ no_parts ops

-- the numbers of rows and the parts behind them; none of the parts where the rows are too many
abbrev pub joined_known : Fold → List Value → List Value → List Value
joined_known fold left right =
    if int_lt (added (column_of left 0) (column_of right 0)) (pos most_rows)
    then Number (added (column_of left 0) (column_of right 0)) ∷ joined_parts fold.ops (drop 1 left) (drop 1 right)
    else Number (pos most_rows) ∷ no_parts fold.ops

abbrev pub joined : Fold → List Value → List Value → List Value
joined fold left right = take fold.groups left ++ joined_known fold (drop fold.groups left) (drop fold.groups right)

-- ---- two lists of rows in ascending order of their groups

-- a row and those behind it, merged with further rows; `merged_rest` merges those behind it
abbrev pub merged_from : Fold → List Value → List (List Value) → (List (List Value) → List (List Value)) → List (List Value) → List (List Value)
merged_from fold row rest merged_rest [] = row ∷ rest
merged_from fold row rest merged_rest (other ∷ others) =
    match_ordering (slice_cmp value_cmp (group_of fold row) (group_of fold other))
    (row ∷ merged_rest (other ∷ others))
    (joined fold row other ∷ merged_rest others)
    (other ∷ merged_from fold row rest merged_rest others)

abbrev pub merged : Fold → List (List Value) → List (List Value) → List (List Value)
merged fold [] others = others
merged fold (row ∷ rest) others = merged_from fold row rest (merged fold rest) others
