-- The columns of kept relations in layouts.
use Rattle.std.specs.Prelude.{ℕ, List, [], ◌∷◌}
use Rattle.rows.specs.declared.plain.Column.{Column}
use Rattle.rows.specs.declared.plain.LayoutColumn.{LayoutColumn}

-- the columns of a layout that have these types and bounds
abbrev pub kept_columns : List Column → List ℕ → List LayoutColumn
kept_columns [] bounds = []
kept_columns (column ∷ columns) [] = []
kept_columns (column ∷ columns) (bound ∷ bounds) =
    record { col_type = column.col_type; bound = bound } ∷ kept_columns columns bounds
