-- What the statements of a script answer where some of them fold the rows that their queries mean.
use Rattle.std.specs.Prelude.{◌≡◌, ℕ, ◌+◌, List, [], ◌∷◌, ◌++◌, length, map, Option, Some, None, IfSome, slice_get, ⊤}
use Rattle.std.specs.List.{AllByRecursion}
use Rattle.rows.specs.declared.value.Value.{Value}
use Rattle.rows.specs.declared.field.ColType.TheVariants.{Int4}
use Rattle.rows.specs.declared.plain.LayoutColumn.{LayoutColumn}
use Rattle.rows.specs.Layouts.{column_type}
use Rattle.aggregate_op.specs.declared.fold.Fold.{Fold}
use Rattle.aggregate_op.specs.declared.fold.FoldOp.{FoldOp}
use Rattle.aggregate_op.specs.declared.fold.FoldOp.TheVariants.{Sum}
use Rattle.aggregate_op.specs.declared.fold.FoldPlan.{FoldPlan}
use Rattle.aggregate_op.specs.FoldMeaning.{fold_meaning}
use Rattle.aggregate_op.specs.Partials.{IsFoldRow}
use Rattle.rel_meaning.specs.declared.query.Table.{Table}
use Rattle.rel_meaning.specs.Expression.{Question}
use Rattle.rel_meaning.specs.Typing.{type_of}
use Rattle.kept_relations.specs.declared.kept.Kept.{Kept}
use Rattle.kept_answers.specs.declared.folding.FoldedAnswers.{FoldedAnswers}
use Rattle.kept_answers.specs.declared.folding.FoldedAnswers.TheVariants as answered
use Rattle.kept_answers.specs.KeptAnswers.{answers_of, columns_behind, kept_of, layout_in}

abbrev pub plan_in : Option (Option FoldPlan) → Option FoldPlan
plan_in None = None
plan_in (Some plan) = plan

-- the fold of a statement and the keys of its answer, if it has a fold
abbrev pub plan_at : List (Option FoldPlan) → ℕ → Option FoldPlan
plan_at folds statement = plan_in (slice_get folds statement)

-- a statement's answer by the rows that its query means: those rows, or what its fold answers of them, in the order of its
-- keys; none where that is too large
abbrev pub folded : Option FoldPlan → List (List Value) → Option (List (List Value))
folded None rows = Some rows
folded (Some plan) rows = fold_meaning plan.fold plan.keys rows

-- the answers of the statements from a number on
abbrev pub folded_from : List (Option FoldPlan) → ℕ → List (List (List Value)) → List (Option (List (List Value)))
folded_from folds statement [] = []
folded_from folds statement (rows ∷ answers) = folded (plan_at folds statement) rows ∷ folded_from folds (statement + 1) answers

-- the answer of each statement by the rows that its query means
abbrev pub folded_answers : List (Option FoldPlan) → List (List (List Value)) → List (Option (List (List Value)))
folded_answers folds answers = folded_from folds 0 answers

-- the answers of a script
abbrev pub script_answers : List Table → List Kept → List (Option FoldPlan) → List Question → List (Option (List (List Value)))
script_answers db kept folds qs = folded_answers folds (answers_of db kept qs)

-- each statement before this one has an answer, and this one has none
pub record IsFirstTooLarge (wanted : List (Option (List (List Value)))) (statement : ℕ) : Type 0 where
  pub before : List (List (List Value))
  pub behind : List (Option (List (List Value)))
  pub whole : wanted ≡ map (λ rows. Some rows) before ++ None ∷ behind
  pub place : length before ≡ statement

-- all of the answers, or the first statement that has none
abbrev pub AreAnswers : List (Option (List (List Value))) → FoldedAnswers → Type 0
AreAnswers wanted (answered.Rows answers) = wanted ≡ map (λ rows. Some rows) answers
AreAnswers wanted (answered.TooLarge statement) = IsFirstTooLarge wanted statement

-- ---- which rows and queries may be folded

-- the rows of each statement that has a fold may be folded
abbrev pub FitFoldsFrom : List (Option FoldPlan) → ℕ → List (List (List Value)) → Type 0
FitFoldsFrom folds statement [] = ⊤
FitFoldsFrom folds statement (rows ∷ answers) =
    IfSome (plan_at folds statement) (λ plan. AllByRecursion (IsFoldRow plan.fold) rows) × FitFoldsFrom folds (statement + 1) answers

abbrev pub FitFolds : List (Option FoldPlan) → List (List (List Value)) → Type 0
FitFolds folds answers = FitFoldsFrom folds 0 answers

-- a column for each op, of integers under `Sum`
abbrev pub AreOpColumns : List FoldOp → List LayoutColumn → Type 0
AreOpColumns [] [] = ⊤
AreOpColumns (Sum ∷ ops) (c ∷ cs) = (c.col_type ≡ Int4) × AreOpColumns ops cs
AreOpColumns (op ∷ ops) (c ∷ cs) = AreOpColumns ops cs
AreOpColumns ops cs = ⊥

-- a query's targets are the group values of a fold, and then the value of each op
pub record FoldsTargets (columns : List (List LayoutColumn)) (q : Question) (fold : Fold) : Type 0 where
  pub groups : List LayoutColumn
  pub values : List LayoutColumn
  pub width : length groups ≡ fold.groups
  pub types : map (λ target. type_of target.expr (column_type (layout_in columns q))) q.targets ≡ map (λ c. Some c) (groups ++ values)
  pub ops : AreOpColumns fold.ops values

-- the queries from a statement on that have folds have such targets, over the relations so far
abbrev pub FoldQueriesFrom : List (List LayoutColumn) → List Kept → List (Option FoldPlan) → ℕ → List Question → Type 0
FoldQueriesFrom columns kept folds statement [] = ⊤
FoldQueriesFrom columns kept folds statement (q ∷ qs) =
    IfSome (plan_at folds statement) (λ plan. FoldsTargets columns q plan.fold)
    × FoldQueriesFrom (columns_behind columns (kept_of kept statement)) kept folds (statement + 1) qs

abbrev pub FoldQueries : List (List LayoutColumn) → List Kept → List (Option FoldPlan) → List Question → Type 0
FoldQueries columns kept folds qs = FoldQueriesFrom columns kept folds 0 qs
