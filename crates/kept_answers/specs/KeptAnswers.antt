-- The answers of a script's queries. Which relations fit what the queries keep is said where these relations are.
use Rattle.std.specs.Prelude.{ℕ, ◌+◌, List, [], ◌∷◌, ◌++◌, map, Option, Some, None, ⊤}
use Rattle.std.specs.List.{AllByRecursion}
use Rattle.rows.specs.declared.value.Value.{Value}
use Rattle.rows.specs.declared.plain.LayoutColumn.{LayoutColumn}
use Rattle.rows.specs.Layouts.{FitsColumns}
use Rattle.rel_meaning.specs.declared.query.Table.{Table}
use Rattle.rel_meaning.specs.Expression.{Question}
use Rattle.rel_meaning.specs.Meaning.{layout_column, meaning}
use Rattle.kept_relations.specs.declared.kept.Kept.{Kept}
pub use Rattle.kept_relations.specs.Fitting.{columns_behind, columns_kept, kept_of, layout_in, AscendFrom, FitKept, FitQueries, FitsTargets, IsResolvedIn}

-- the tables behind a statement: one more where its answer is kept
abbrev pub tables_behind : List Table → Option Kept → List (List Value) → List Table
tables_behind db None rows = db
tables_behind db (Some kept) rows = db ++ record { columns = kept.columns; rows = rows } ∷ []

-- the answers of the queries from a statement on, each over the tables so far
abbrev pub answers_from : List Table → List Kept → ℕ → List Question → List (List (List Value))
answers_from db kept statement [] = []
answers_from db kept statement (q ∷ qs) =
    meaning db q ∷ answers_from (tables_behind db (kept_of kept statement) (meaning db q)) kept (statement + 1) qs

-- the answers of the queries of a script
abbrev pub answers_of : List Table → List Kept → List Question → List (List (List Value))
answers_of db kept qs = answers_from db kept 0 qs

-- the columns of the relations of a database
abbrev pub database_columns : List Table → List (List LayoutColumn)
database_columns db = map (λ table. map layout_column table.columns) db

-- each table's rows fit the columns at its place
abbrev pub FitColumns : List (List LayoutColumn) → List Table → Type 0
FitColumns [] [] = ⊤
FitColumns [] (table ∷ tables) = ⊥
FitColumns (c ∷ cs) [] = ⊥
FitColumns (c ∷ cs) (table ∷ tables) = AllByRecursion (FitsColumns c) table.rows × FitColumns cs tables
