-- Rows for range variables, as a function from a variable and a column to a value.
use Rattle.std.specs.Prelude.{ℕ, ◌==◌, List, [], if◌then◌else◌, Option, Some, None, slice_get}
use Rattle.rows.specs.declared.value.Value.{Value}
use Rattle.rows.specs.declared.value.Value.TheVariants as value
use Rattle.rows.specs.Values.{column_of}
use Rattle.rel_meaning.specs.declared.query.Var.{Var}
use Rattle.rel_meaning.specs.declared.query.Table.{Table}
use Rattle.rows.specs.declared.plain.LayoutColumn.{LayoutColumn}
use Rattle.rel_meaning.specs.Meaning.{rows_of, columns_of}

abbrev pub Assignment : Type 0
Assignment = ℕ → ℕ → Value

-- no variable has a row
abbrev pub blank : Assignment
blank var column = value.Null

-- a variable gets a row
abbrev pub bind : Assignment → ℕ → List Value → Assignment
bind e v row var column = if v == var then column_of row column else e var column

-- the rows of a variable's relation
abbrev pub rows_if : List Table → Option Var → List (List Value)
rows_if db None = []
rows_if db (Some v) = rows_of db v.relation

abbrev pub rows_for : List Table → List Var → ℕ → List (List Value)
rows_for db vars v = rows_if db (slice_get vars v)

-- the columns of a variable's relation
abbrev pub columns_if : List Table → Option Var → List LayoutColumn
columns_if db None = []
columns_if db (Some v) = columns_of db v.relation

abbrev pub columns_for : List Table → List Var → ℕ → List LayoutColumn
columns_for db vars v = columns_if db (slice_get vars v)
