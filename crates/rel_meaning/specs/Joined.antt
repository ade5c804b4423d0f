-- A query's rows as the code finds them: each choice as one row, and values by the layout.
use Rattle.std.specs.Prelude.{List, [], ◌∷◌, ◌++◌, map, filter}
use Rattle.std.specs.List.{flat_map}
use Rattle.rows.specs.declared.value.Value.{Value}
use Rattle.rel_meaning.specs.declared.query.Var.{Var}
use Rattle.rel_meaning.specs.Expression.{Question}
use Rattle.rel_meaning.specs.declared.answer.Choice.{Choice}
use Rattle.rel_meaning.specs.declared.answer.Choice.TheVariants.{One, Several}
use Rattle.rel_meaning.specs.declared.query.Table.{Table}
use Rattle.rows.specs.declared.plain.LayoutPart.{LayoutPart}
use Rattle.rows.specs.Layouts.{column_in}
use Rattle.rel_meaning.specs.Meaning.{rows_of, passes, project}

-- the choices of rows for the variables, each behind a front
abbrev pub joined : List Table → List Value → List Var → List (List Value)
joined db front [] = front ∷ []
joined db front (v ∷ vs) = flat_map (λ row. joined db (front ++ row) vs) (rows_of db v.relation)

-- the rows that pass the test, as the values of the targets
abbrev pub answers : Question → List LayoutPart → List (List Value) → List (List Value)
answers q layout rows = map (λ row. project q.targets (column_in layout row)) (filter (λ row. passes q.test (column_in layout row)) rows)

-- a choice as one row
abbrev pub row_of : Choice → List Value
row_of (One row) = row.now
row_of (Several row) = row
