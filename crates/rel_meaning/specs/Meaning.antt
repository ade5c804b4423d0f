-- What a query means.
use Rattle.std.specs.Prelude.{◌<◌, ℕ, ◌+◌, ◌^◌, Bool, true, false, List, [], ◌∷◌, length, slice_get, slice_index_or, Option, Some, None, IsSome, IfSome, All, map, filter, IsTrue}
use Rattle.std.specs.List.{flat_map}
use Rattle.rows.specs.declared.value.Value.{Value}
use Rattle.rows.specs.declared.value.Value.TheVariants as value
use Rattle.rows.specs.declared.field.ColType.{ColType}
use Rattle.rows.specs.declared.field.ColType.TheVariants as col
use Rattle.rows.specs.declared.plain.Column.{Column}
use Rattle.rows.specs.Values.{column_of, arranged}
use Rattle.rel_meaning.specs.Expression.{Expression, Output, Question}
use Rattle.rel_meaning.specs.declared.query.Var.{Var}
use Rattle.rel_meaning.specs.declared.query.Table.{Table}
use Rattle.rows.specs.declared.plain.LayoutColumn.{LayoutColumn}
use Rattle.rows.specs.declared.plain.LayoutPart.{LayoutPart}
use Rattle.rel_meaning.specs.Eval.{eval}
use Rattle.rows.specs.Layouts.{column_type, FitsColumns}
use Rattle.rel_meaning.specs.Typing.{type_of, is_truth}

abbrev pub rows_at : Option Table → List (List Value)
rows_at None = []
rows_at (Some table) = table.rows

-- the rows of a relation
abbrev pub rows_of : List Table → ℕ → List (List Value)
rows_of db relation = rows_at (slice_get db relation)

-- all choices of one row for each range variable, the first variable slowest
abbrev pub combos : List Table → List Var → List (List (List Value))
combos db [] = [] ∷ []
combos db (v ∷ vs) = flat_map (λ row. map (λ rest. row ∷ rest) (combos db vs)) (rows_of db v.relation)

-- the value of a variable's column in a choice
abbrev pub value_in : List (List Value) → ℕ → ℕ → Value
value_in choice var column = column_of (slice_index_or choice var []) column

abbrev pub is_true : Value → Bool
is_true (value.Truth b) = b
is_true other = false

-- whether the test is absent or true
abbrev pub passes : Option Expression → (ℕ → ℕ → Value) → Bool
passes None row = true
passes (Some test) row = is_true (eval test row)

abbrev pub project : List Output → (ℕ → ℕ → Value) → List Value
project targets row = map (λ target. eval target.expr row) targets

-- the rows that answer a query
abbrev pub meaning : List Table → Question → List (List Value)
meaning db q = arranged q.unique q.keys (map (λ choice. project q.targets (value_in choice)) (filter (λ choice. passes q.test (value_in choice)) (combos db q.vars)))

-- the bound of a column's type
abbrev pub bound_at : ColType → ℕ
bound_at col.Int4 = 2147483648
bound_at col.Text = 0
bound_at col.Bool = 0

abbrev pub layout_column : Column → LayoutColumn
layout_column c = record { col_type = c.col_type; bound = bound_at c.col_type }

abbrev pub columns_at : Option Table → List LayoutColumn
columns_at None = []
columns_at (Some table) = map layout_column table.columns

abbrev pub columns_of : List Table → ℕ → List LayoutColumn
columns_of db relation = columns_at (slice_get db relation)

-- the layout of range variables, numbered from a number on, where the relations have these columns
abbrev pub layout_over : (ℕ → List LayoutColumn) → ℕ → List Var → List LayoutPart
layout_over columns number [] = []
layout_over columns number (v ∷ vs) =
    record { var = number; columns = columns v.relation } ∷ layout_over columns (number + 1) vs

-- the same with the columns of the tables
abbrev pub layout_from : List Table → ℕ → List Var → List LayoutPart
layout_from db number vars = layout_over (columns_of db) number vars

abbrev pub layout_of : List Table → List Var → List LayoutPart
layout_of db vars = layout_from db 0 vars

-- each row of a table has a value for each column, of its type
abbrev pub IsTable : Table → Type 0
IsTable table = All (FitsColumns (map layout_column table.columns)) table.rows

-- a query that may be asked of the tables
pub record IsResolved (db : List Table) (q : Question) : Type 0 where
  pub few : length q.vars < 2 ^ 32
  pub relations : All (λ v. v.relation < length db) q.vars
  pub targets : All (λ target. IsSome (type_of target.expr (column_type (layout_of db q.vars)))) q.targets
  pub test : IfSome q.test (λ test. IsTrue (is_truth (type_of test (column_type (layout_of db q.vars)))))
  pub tables : All IsTable db

-- the columns of a relation, and none where there is no such relation
abbrev pub listed : List (List LayoutColumn) → ℕ → List LayoutColumn
listed columns relation = slice_index_or columns relation []

-- a query that may be asked of the tables where their rows fit these columns, of whatever bounds
pub record CanBeAsked (columns : ℕ → List LayoutColumn) (db : List Table) (q : Question) : Type 0 where
  pub few : length q.vars < 2 ^ 32
  pub relations : All (λ v. v.relation < length db) q.vars
  pub targets : All (λ target. IsSome (type_of target.expr (column_type (layout_over columns 0 q.vars)))) q.targets
  pub test : IfSome q.test (λ test. IsTrue (is_truth (type_of test (column_type (layout_over columns 0 q.vars)))))
  pub tables : (relation : ℕ) → All (FitsColumns (columns relation)) (rows_of db relation)
