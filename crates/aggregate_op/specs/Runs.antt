-- Rows in the order of their groups, and what is known of rows by the columns of their values.
use Rattle.std.specs.Prelude.{ℕ, suc, ◌+◌, List, [], ◌∷◌, ◌++◌, map, filter, drop, if◌then◌else◌, ⊤}
use Rattle.std.specs.Borrow.{Bor}
use Rattle.std.specs.List.{AllByRecursion}
use Rattle.std.specs.declared.cmp.Ordering.{Ordering}
use Rattle.std.specs.Cmp.Lexicographic.{slice_cmp}
use Rattle.rows.specs.declared.value.Value.{Value}
use Rattle.rows.specs.declared.value.Value.TheVariants.{Number}
use Rattle.rows.specs.Values.{value_cmp, column_of}
use Rattle.aggregate_op.specs.declared.fold.Fold.{Fold}
use Rattle.aggregate_op.specs.declared.fold.FoldOp.{FoldOp}
use Rattle.aggregate_op.specs.declared.fold.FoldOp.TheVariants.{Sum}
use Rattle.aggregate_op.specs.Partials.{group_of, is_member, is_no_null, part_of, sum_of, high_part, low_part}
use Rattle.aggregate_op.specs.Stored.{IsStored, AreStored}

abbrev pub seen : Bor (List Value) → List Value
seen row = row.now

-- the order of rows by their groups
abbrev pub group_order : Fold → List Value → List Value → Ordering
group_order fold a b = slice_cmp value_cmp (group_of fold a) (group_of fold b)

-- how many rows at the front are of a group
abbrev pub leading : Fold → List Value → List (List Value) → ℕ
leading fold group [] = 0
leading fold group (row ∷ rows) = if is_member fold group row then suc (leading fold group rows) else 0

-- the values of a column, without null
abbrev pub column_values : ℕ → List (List Value) → List Value
column_values column rows = filter is_no_null (map (λ row. column_of row column) rows)

-- the parts of ops whose values stand in the columns from a number on
abbrev pub parts_at : ℕ → List FoldOp → List (List Value) → List Value
parts_at column [] rows = []
parts_at column (op ∷ ops) rows = part_of op (column_values column rows) ++ parts_at (column + 1) ops rows

-- how often a sum of values holds 2^62, and what is left
abbrev pub sum_part : List Value → List Value
sum_part values = Number (high_part (sum_of values)) ∷ Number (low_part (sum_of values)) ∷ []

-- the numbers of a column, where they are added up, have 64 bits
abbrev pub IsStoredColumn : FoldOp → ℕ → List (List Value) → Type 0
IsStoredColumn Sum column rows = AllByRecursion (λ row. IsStored (column_of row column)) rows
IsStoredColumn other column rows = ⊤

-- those of all ops whose values stand in the columns from a number on
abbrev pub AreStoredAt : ℕ → List FoldOp → List (List Value) → Type 0
AreStoredAt column ops rows = AllByRecursion (λ row. AreStored ops (drop column row)) rows
