-- Folds and kept relations that fit the queries of a script.
use Rattle.std.specs.Prelude.{◌≡◌, ℕ, ◌+◌, List, [], ◌∷◌, drop, length, map, Option, IsSome, IfSome}
use Rattle.std.specs.Prelude.{⊤}
use Rattle.rows.specs.declared.plain.LayoutColumn.{LayoutColumn}
use Rattle.rows.specs.declared.plain.Relation.{Relation}
use Rattle.rows.specs.Layouts.{column_type}
use Rattle.rel_meaning.specs.Expression.{Question}
use Rattle.rel_meaning.specs.Meaning.{layout_column}
use Rattle.rel_meaning.specs.Typing.{integer_bound, type_of}
use Rattle.aggregate_op.specs.declared.fold.Fold.{Fold}
use Rattle.aggregate_op.specs.declared.fold.FoldOp.{FoldOp}
use Rattle.aggregate_op.specs.declared.fold.FoldOp.TheVariants.{Sum}
use Rattle.aggregate_op.specs.declared.fold.FoldPlan.{FoldPlan}
use Rattle.kept_relations.specs.declared.kept.Kept.{Kept}
use Rattle.kept_relations.specs.Fitting.{FitKept, columns_behind, kept_of, layout_in}
use Rattle.postquel_tokens.specs.Forms.{Sentence}
use Rattle.name_check.specs.Headers.{kept_in}
use Rattle.name_check.specs.Sentences.{heading_of, questions_in}

-- an integer for each sum
abbrev pub AreSummed : List FoldOp → List (Option LayoutColumn) → Type 0
AreSummed [] types = ⊤
AreSummed (op ∷ ops) [] = ⊤
AreSummed (Sum ∷ ops) (type ∷ types) = IsSome (integer_bound type) × AreSummed ops types
AreSummed (op ∷ ops) (type ∷ types) = AreSummed ops types

-- the targets of a query are a value for each group value of the fold, and then one for each op
pub record FitsFold (columns : List (List LayoutColumn)) (q : Question) (fold : Fold) : Type 0 where
  pub width : length q.targets ≡ fold.groups + length fold.ops
  pub sums : AreSummed fold.ops
      (drop fold.groups
      (map (λ target. type_of target.expr (column_type (layout_in columns q))) q.targets))

-- the folds of the statements from one on fit their queries, which may name what was kept before
abbrev pub FitFolds : List (List LayoutColumn) → List Kept → ℕ → List Question →
    List (Option FoldPlan) → Type 0
FitFolds columns kept statement [] [] = ⊤
FitFolds columns kept statement [] (p ∷ ps) = ⊥
FitFolds columns kept statement (q ∷ qs) [] = ⊥
FitFolds columns kept statement (q ∷ qs) (p ∷ ps) =
    IfSome p (λ plan. FitsFold columns q plan.fold) × FitFolds
    (columns_behind columns (kept_of kept statement)) kept (statement + 1) qs ps

-- the columns of the relations of a catalogue
abbrev pub catalog_columns : List Relation → List (List LayoutColumn)
catalog_columns catalog = map (λ r. map layout_column r.columns) catalog

-- the queries of a script over a catalogue
abbrev pub questions_of : List Relation → List Sentence → List Question
questions_of catalog script = questions_in (map heading_of catalog) script

-- what is kept fits the queries of a script over a catalogue
abbrev pub KeptFits : List Relation → List Sentence → List Kept → Type 0
KeptFits catalog script kept = FitKept (catalog_columns catalog) kept (questions_of catalog script)

-- and so do the folds
abbrev pub FoldsFit : List Relation → List Sentence → List (Option FoldPlan) → Type 0
FoldsFit catalog script plans =
    FitFolds (catalog_columns catalog) (kept_in (map heading_of catalog) script) 0
    (questions_of catalog script) plans
