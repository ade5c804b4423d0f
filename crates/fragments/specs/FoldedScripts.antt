-- The folds of a script's statements, and what its fragments give with them.
use Rattle.std.specs.Prelude.{◌≡◌, ◌+◌, ℕ, false, List, [], ◌∷◌, map, Option, Some, None, IfSome, ⊤}
use Rattle.rows.specs.declared.value.Value.{Value}
use Rattle.rows.specs.declared.plain.LayoutColumn.{LayoutColumn}
use Rattle.rel_meaning.specs.declared.query.Table.{Table}
use Rattle.rel_meaning.specs.Expression.{Question}
use Rattle.aggregate_op.specs.declared.fold.Fold.{Fold}
use Rattle.aggregate_op.specs.declared.fold.FoldPlan.{FoldPlan}
use Rattle.aggregate_op.specs.Partials.{partial}
use Rattle.plan_tree.specs.Fragments.{Stored, value_at, values_of}
use Rattle.plan_tree.specs.Pieces.{Piece}
use Rattle.plan_tree.specs.Views.{Planned}
use Rattle.seq_optimizer.specs.declared.stats.VarStats.{VarStats}
use Rattle.kept_relations.specs.declared.kept.Kept.{Kept}
use Rattle.kept_relations.specs.Fitting.{columns_behind, kept_of}
use Rattle.kept_answers.specs.FoldedAnswers.{FoldsTargets}
use Rattle.kept_answers.specs.KeptAnswers.{answers_of}
use Rattle.fragments.specs.Folds.{fold_at}
use Rattle.fragments.specs.Homes.{Known}
use Rattle.fragments.specs.Laws.{HoldTables, PlansFit}
use Rattle.fragments.specs.Scripts.{last_numbers}

-- A fold of a query over relations of these columns: the query asks for all rows without sort keys,
-- with a target for each group value and then one for each op, and its statement keeps no answer.
pub record IsFoldOf (columns : List (List LayoutColumn)) (q : Question) (kept : Option Kept) (fold : Fold) : Type 0 where
  pub targets : FoldsTargets columns q fold
  pub all : q.unique ≡ false
  pub plain : q.keys ≡ []
  pub unkept : kept ≡ None

-- the folds of the statements from one on are of their queries
abbrev pub AreFoldsFrom : List (List LayoutColumn) → List Kept → List (Option FoldPlan) → ℕ → List Question → Type 0
AreFoldsFrom columns kept folds statement [] = ⊤
AreFoldsFrom columns kept folds statement (q ∷ qs) =
    IfSome (fold_at folds statement) (IsFoldOf columns q (kept_of kept statement))
    × AreFoldsFrom (columns_behind columns (kept_of kept statement)) kept folds (statement + 1) qs

-- the folds of a script's statements are of their queries
abbrev pub AreFolds : List (List LayoutColumn) → List Kept → List (Option FoldPlan) → List Question → Type 0
AreFolds columns kept folds qs = AreFoldsFrom columns kept folds 0 qs

abbrev pub partial_if : Option Fold → List (List Value) → List (List Value)
partial_if None rows = rows
partial_if (Some fold) rows = partial fold rows

-- the rows of statements from one on, or their partial where the statement has a fold
abbrev pub partials_from : List (Option FoldPlan) → ℕ → List (List (List Value)) → List (List (List Value))
partials_from folds statement [] = []
partials_from folds statement (rows ∷ others) =
    partial_if (fold_at folds statement) rows ∷ partials_from folds (statement + 1) others

-- Over all stored files of the tables the values of the statements' last fragments are the answers of
-- the queries, or their partials where the statement has a fold.
abbrev pub MeanFolded : Known → List (List VarStats) → List Planned → List (Option FoldPlan) → List Piece → Type 0
MeanFolded known table ps folds pieces = (stored : Stored) (db : List Table) → HoldTables stored known db → PlansFit stored known ps →
    map (value_at (values_of stored pieces)) (last_numbers known table ps)
    ≡ partials_from folds 0 (answers_of db known.kept (map (λ (p : Planned). p.query) ps))
