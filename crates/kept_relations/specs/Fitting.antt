-- Which relations fit what the queries of a script keep.
use Rattle.std.specs.Prelude.{◌≡◌, ◌<◌, ◌≤◌, ◌^◌, ℕ, ◌+◌, ◌==◌, List, [], ◌∷◌, ◌++◌, length, map, Option, Some, None, IsSome, IfSome, All, IsTrue, if◌then◌else◌, ⊤}
use Rattle.rows.specs.declared.plain.LayoutColumn.{LayoutColumn}
use Rattle.rows.specs.declared.plain.LayoutPart.{LayoutPart}
use Rattle.rows.specs.Layouts.{column_type}
use Rattle.rel_meaning.specs.Expression.{Question}
use Rattle.rel_meaning.specs.Meaning.{layout_over, listed}
use Rattle.rel_meaning.specs.Typing.{is_truth, type_of}
use Rattle.kept_relations.specs.declared.kept.Kept.{Kept}
use Rattle.kept_relations.specs.KeptColumns.{kept_columns}

-- what a statement keeps, if it keeps its answer
abbrev pub kept_of : List Kept → ℕ → Option Kept
kept_of [] statement = None
kept_of (kept ∷ others) statement = if kept.statement == statement then Some kept else kept_of others statement

-- the layout of a query's variables, where the relations have these columns
abbrev pub layout_in : List (List LayoutColumn) → Question → List LayoutPart
layout_in columns q = layout_over (listed columns) 0 q.vars

-- a query that is resolved for relations of these columns
pub record IsResolvedIn (columns : List (List LayoutColumn)) (q : Question) : Type 0 where
  pub few : length q.vars < 2 ^ 32
  pub relations : All (λ v. v.relation < length columns) q.vars
  pub targets : All (λ target. IsSome (type_of target.expr (column_type (layout_in columns q)))) q.targets
  pub test : IfSome q.test (λ test. IsTrue (is_truth (type_of test (column_type (layout_in columns q)))))

abbrev pub columns_kept : Kept → List LayoutColumn
columns_kept kept = kept_columns kept.columns kept.bounds

-- a kept relation has a column for each target of its query, with the target's type and bound
pub record FitsTargets (columns : List (List LayoutColumn)) (q : Question) (kept : Kept) : Type 0 where
  pub each : length kept.bounds ≡ length kept.columns
  pub types : map (λ target. type_of target.expr (column_type (layout_in columns q))) q.targets
      ≡ map (λ c. Some c) (columns_kept kept)

-- the columns of the relations behind a statement
abbrev pub columns_behind : List (List LayoutColumn) → Option Kept → List (List LayoutColumn)
columns_behind columns None = columns
columns_behind columns (Some kept) = columns ++ columns_kept kept ∷ []

-- the queries from a statement on are resolved for the relations so far, and what is kept fits them
abbrev pub FitQueries : List (List LayoutColumn) → List Kept → ℕ → List Question → Type 0
FitQueries columns kept statement [] = ⊤
FitQueries columns kept statement (q ∷ qs) =
    IsResolvedIn columns q × IfSome (kept_of kept statement) (FitsTargets columns q)
    × FitQueries (columns_behind columns (kept_of kept statement)) kept (statement + 1) qs

-- each names a later statement than the one before it, and none a statement before this one
abbrev pub AscendFrom : ℕ → List Kept → Type 0
AscendFrom statement [] = ⊤
AscendFrom statement (kept ∷ others) = (statement ≤ kept.statement) × AscendFrom (kept.statement + 1) others

-- Kept relations of the queries of a script over relations of these columns: each of another
-- statement, in the order of the statements, and with the columns of its query. Behind the other
-- relations they have the numbers that follow, and only later queries name a kept relation.
pub record FitKept (columns : List (List LayoutColumn)) (kept : List Kept) (qs : List Question) : Type 0 where
  pub ascending : AscendFrom 0 kept
  pub within : All (λ k. k.statement < length qs) kept
  pub queries : FitQueries columns kept 0 qs
