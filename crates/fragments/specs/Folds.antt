-- Fragments whose answers are folded.
use Rattle.std.specs.Prelude.{◌≡◌, ℕ, Bool, true, false, List, [], ◌∷◌, Option, Some, None, slice_get, ⊤}
use Rattle.std.specs.List.{AllByRecursion}
use Rattle.std.specs.Option.{option_map}
use Rattle.rows.specs.declared.value.Value.{Value}
use Rattle.rows.specs.declared.plain.LayoutPart.{LayoutPart}
use Rattle.aggregate_op.specs.declared.fold.Fold.{Fold}
use Rattle.aggregate_op.specs.declared.fold.FoldPlan.{FoldPlan}
use Rattle.aggregate_op.specs.Partials.{partial}
use Rattle.kept_answers.specs.FoldedAnswers.{plan_at}
use Rattle.plan_tree.specs.Inputs.{inputs_of}
use Rattle.plan_tree.specs.Pieces.{Ending, Piece, building, answering, folding, sorting}
use Rattle.plan_tree.specs.WellFormed.{IsFolded}
use Rattle.plan_tree.specs.declared.fragment.End.{End}
use Rattle.plan_tree.specs.declared.fragment.End.TheVariants as end

-- the fold of a statement, if it has one
abbrev pub fold_at : List (Option FoldPlan) → ℕ → Option Fold
fold_at folds statement = option_map (λ (plan : FoldPlan). plan.fold) (plan_at folds statement)

-- the targets of an answer, folded
abbrev pub folded_end : Option Fold → Ending → Ending
folded_end None ending = ending
folded_end (Some fold) (building keys) = building keys
folded_end (Some fold) (answering targets unique keys) = folding targets fold
folded_end (Some fold) (folding targets other) = folding targets other
folded_end (Some fold) (sorting keys) = sorting keys

abbrev pub folded : List (Option FoldPlan) → Piece → Piece
folded folds piece = record {
  statement = piece.statement;
  pipe = piece.pipe;
  end = folded_end (fold_at folds piece.statement) piece.end;
  layout = piece.layout;
  positions = piece.positions;
  pages = piece.pages;
  time = piece.time;
}

abbrev pub is_answer : End → Bool
is_answer (end.Build keys) = false
is_answer (end.Answer targets unique keys) = true
is_answer (end.Fold targets fold) = false
is_answer (end.Sort keys) = false

-- ---- folds that fit

-- A fold fits an answer of all rows without sort keys, which has a target for each group value and
-- then one for each op.
abbrev pub MayEndFolded : List LayoutPart → Option Fold → Ending → Type 0
MayEndFolded layout None ending = ⊤
MayEndFolded layout (Some fold) (building keys) = ⊤
MayEndFolded layout (Some fold) (answering targets unique keys) = IsFolded layout targets fold × (unique ≡ false) × (keys ≡ [])
MayEndFolded layout (Some fold) (folding targets other) = ⊤
MayEndFolded layout (Some fold) (sorting keys) = ⊤

-- it keeps its end
abbrev pub IsUnfolded : List (Option FoldPlan) → Piece → Type 0
IsUnfolded folds piece = folded_end (fold_at folds piece.statement) piece.end ≡ piece.end

-- each of these numbers is that of a fragment that keeps its end, or of none
abbrev pub AreUnfolded : List (Option FoldPlan) → List Piece → List ℕ → Type 0
AreUnfolded folds pieces numbers = AllByRecursion (λ (number : ℕ). (read : Piece) → slice_get pieces number ≡ Some read → IsUnfolded folds read) numbers

-- the folds fit the answers, and no fragment reads an answer that is folded
pub record MayBeFolded (folds : List (Option FoldPlan)) (pieces : List Piece) : Type 0 where
  pub each : AllByRecursion (λ (piece : Piece). MayEndFolded piece.layout (fold_at folds piece.statement) piece.end) pieces
  pub unread : AllByRecursion (λ (piece : Piece). AreUnfolded folds pieces (inputs_of piece)) pieces

-- ---- values

-- the value of a fragment where its answer is folded: the partial of the rows of the answer
abbrev pub value_folded : Option Fold → Ending → List (List Value) → List (List Value)
value_folded None ending value = value
value_folded (Some fold) (building keys) value = value
value_folded (Some fold) (answering targets unique keys) value = partial fold value
value_folded (Some fold) (folding targets other) value = value
value_folded (Some fold) (sorting keys) value = value

abbrev pub folded_value : List (Option FoldPlan) → Piece → List (List Value) → List (List Value)
folded_value folds piece value = value_folded (fold_at folds piece.statement) piece.end value

-- the values of fragments whose answers are folded, by those of the same fragments without folds
abbrev pub folded_values : List (Option FoldPlan) → List Piece → List (List (List Value)) → List (List (List Value))
folded_values folds [] values = []
folded_values folds (piece ∷ pieces) [] = []
folded_values folds (piece ∷ pieces) (value ∷ values) = folded_value folds piece value ∷ folded_values folds pieces values
