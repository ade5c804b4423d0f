-- What is known of each group of some rows.
use Rattle.std.specs.Prelude.{◌≡◌, ◌+◌, ◌-◌, ◌^◌, ℕ, ℤ, pos, ◌+ℤ◌, Bool, true, false, List, [], ◌∷◌, ◌++◌, length, take, map, filter, min, nat_lt, if◌then◌else◌, ⊤}
use Rattle.std.specs.List.{AllByRecursion}
use Rattle.std.specs.Int.{int_div_euclid, int_rem_euclid}
use Rattle.std.specs.Ordering.{is_eq}
use Rattle.std.specs.Cmp.Lexicographic.{slice_cmp}
use Rattle.lists.specs.Arranged.{sort_by}
use Rattle.rows.specs.declared.value.Value.{Value}
use Rattle.rows.specs.declared.value.Value.TheVariants.{Null, Number}
use Rattle.rows.specs.Values.{value_cmp, column_of, arranged}
use Rattle.aggregate_op.specs.declared.fold.Fold.{Fold}
use Rattle.aggregate_op.specs.declared.fold.FoldOp.{FoldOp}
use Rattle.aggregate_op.specs.declared.fold.FoldOp.TheVariants.{Count, Min, Max, Sum}

-- ---- groups

-- a row's group values: its first ones
abbrev pub group_of : Fold → List Value → List Value
group_of fold row = take fold.groups row

-- the group values of the rows, those of each group once, in ascending order
abbrev pub groups_of : Fold → List (List Value) → List (List Value)
groups_of fold rows = arranged true [] (map (group_of fold) rows)

abbrev pub is_member : Fold → List Value → List Value → Bool
is_member fold group row = is_eq (slice_cmp value_cmp (group_of fold row) group)

-- the rows of a group
abbrev pub members : Fold → List Value → List (List Value) → List (List Value)
members fold group rows = filter (is_member fold group) rows

-- ---- the parts of the ops

abbrev pub is_no_null : Value → Bool
is_no_null Null = false
is_no_null other = true

-- an op's values in some rows, without null; they stand behind the group values
abbrev pub op_values : Fold → ℕ → List (List Value) → List Value
op_values fold number rows = filter is_no_null (map (λ row. column_of row (fold.groups + number)) rows)

-- the least and the greatest of values, null where there is none
abbrev pub least : List Value → Value
least values = column_of (sort_by value_cmp values) 0

abbrev pub greatest : List Value → Value
greatest values = column_of (sort_by value_cmp values) (length values - 1)

abbrev pub integer_in : Value → ℤ
integer_in (Number n) = n
integer_in other = pos 0

abbrev pub sum_of : List Value → ℤ
sum_of [] = pos 0
sum_of (v ∷ vs) = integer_in v +ℤ sum_of vs

abbrev pub number : ℕ → Value
number n = Number (pos n)

-- a sum is kept as how many 2^62 it holds, and what is left
abbrev pub high_part : ℤ → ℤ
high_part sum = int_div_euclid sum (pos (2 ^ 62))

abbrev pub low_part : ℤ → ℤ
low_part sum = int_rem_euclid sum (pos (2 ^ 62))

-- what is kept of an op's values
abbrev pub part_of : FoldOp → List Value → List Value
part_of Count values = number (length values) ∷ []
part_of Min values = least values ∷ []
part_of Max values = greatest values ∷ []
part_of Sum values = number (length values) ∷ Number (high_part (sum_of values)) ∷ Number (low_part (sum_of values)) ∷ []

-- the parts of the ops from a number on
abbrev pub parts_from : Fold → ℕ → List FoldOp → List (List Value) → List Value
parts_from fold number [] rows = []
parts_from fold number (op ∷ ops) rows = part_of op (op_values fold number rows) ++ parts_from fold (number + 1) ops rows

abbrev pub parts_of : Fold → List (List Value) → List Value
parts_of fold rows = parts_from fold 0 fold.ops rows

-- ---- partials

-- so many rows of one group are too many to be told apart
abbrev pub most_rows : ℕ
most_rows = 2 ^ 48

-- the rows, and none where they are too many
abbrev pub unless_too_many : List (List Value) → List (List Value)
unless_too_many rows = if nat_lt (length rows) most_rows then rows else []

-- the group values, the number of the group's rows, and the part of each op
abbrev pub known_of : Fold → List Value → List (List Value) → List Value
known_of fold group rows = group ++ number (min (length rows) most_rows) ∷ parts_of fold (unless_too_many rows)

abbrev pub group_row : Fold → List (List Value) → List Value → List Value
group_row fold rows group = known_of fold group (members fold group rows)

-- the partial of rows: what is known of each of their groups, in ascending order of the groups
abbrev pub partial : Fold → List (List Value) → List (List Value)
partial fold rows = map (group_row fold rows) (groups_of fold rows)

-- ---- the rows that may be folded

abbrev pub IsInteger : Value → Type 0
IsInteger Null = ⊤
IsInteger (Number n) = ⊤
IsInteger other = ⊥

abbrev pub IsOpValue : FoldOp → Value → Type 0
IsOpValue Sum v = IsInteger v
IsOpValue other v = ⊤

abbrev pub AreOpValues : List FoldOp → List Value → Type 0
AreOpValues [] [] = ⊤
AreOpValues (op ∷ ops) (v ∷ vs) = IsOpValue op v × AreOpValues ops vs
AreOpValues ops vs = ⊥

-- the group values, and then a value for each op, a number or null under `Sum`
pub record IsFoldRow (fold : Fold) (row : List Value) : Type 0 where
  pub groups : List Value
  pub values : List Value
  pub width : length groups ≡ fold.groups
  pub whole : row ≡ groups ++ values
  pub ops : AreOpValues fold.ops values

-- the partial of some rows
pub record IsPartial (fold : Fold) (found : List (List Value)) : Type 0 where
  pub rows : List (List Value)
  pub fit : AllByRecursion (IsFoldRow fold) rows
  pub same : found ≡ partial fold rows
