-- Where the values of a combined row stand in the two rows that it is made of.
use Rattle.std.specs.Prelude.{ℕ, ◌+◌, List, [], ◌∷◌, ◌++◌, if◌then◌else◌}
use Rattle.rows.specs.declared.value.Value.{Value}
use Rattle.rows.specs.declared.plain.LayoutColumn.{LayoutColumn}
use Rattle.rows.specs.declared.plain.LayoutPart.{LayoutPart}
use Rattle.rows.specs.Layouts.{column_place, value_at}
use Rattle.plan_tree.specs.Combining.{has_part}
use Rattle.pipeline.specs.declared.combining.Taken.{Taken}

-- where a variable's column stands: in the first row where that has the variable, and else in the second
abbrev pub taken_from : List LayoutPart → List LayoutPart → ℕ → ℕ → Taken
taken_from first second var column = record {
  built = has_part first var;
  place = if has_part first var then column_place first var column else column_place second var column;
}

-- the columns of a variable from one on
abbrev pub taken_part : List LayoutPart → List LayoutPart → ℕ → ℕ → List LayoutColumn → List Taken
taken_part first second var column [] = []
taken_part first second var column (c ∷ cs) = taken_from first second var column ∷ taken_part first second var (column + 1) cs

-- the columns of a layout
abbrev pub taken_columns : List LayoutPart → List LayoutPart → List LayoutPart → List Taken
taken_columns [] first second = []
taken_columns (part ∷ parts) first second = taken_part first second part.var 0 part.columns ++ taken_columns parts first second

-- the value that stands there
abbrev pub taken_value : Taken → List Value → List Value → Value
taken_value taken a b = value_at (if taken.built then a else b) taken.place
