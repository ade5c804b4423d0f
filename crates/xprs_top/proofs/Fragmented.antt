-- Fragments that may be explained.
use Rattle.std.proofs.Common.{◌≡◌, ◌≤◌, ℕ, suc, List, [], ◌∷◌, length, map, slice_get, Option, Some, refl, sym, ap, subst, ◌∙◌, arith}
use Rattle.std.specs.List.{All, AllByRecursion}
use Rattle.std.proofs.lemmas.List.{length-map}
use Rattle.std.proofs.lemmas.List.Elements.{All-from_recursion}
use Rattle.aggregate_op.specs.declared.fold.FoldPlan.{FoldPlan}
use Rattle.fragments.specs.Folds.{folded}
use Rattle.plan_tree.specs.declared.fragment.Fragment.{Fragment}
use Rattle.plan_tree.specs.Pieces.{Piece, piece_of, pieces_of}
use Rattle.plan_tree.specs.WellFormed.{AreWellFormed, IsTimed, IsTimedFragment}

abbrev IsTimedPiece : Piece → Type 0
IsTimedPiece piece = IsTimed piece.pages piece.time

all_places : {X : Type 0} (P : X → Type 0) (xs : List X) → ((i : ℕ) (x : X) → slice_get xs i ≡ Some x → P x) → AllByRecursion P xs
all_places P [] h = tt
all_places P (x ∷ xs) h = (h 0 x refl, all_places P xs (λ i y e. h (suc i) y e))

pieces_timed : (pieces : List Piece) → AreWellFormed pieces → AllByRecursion IsTimedPiece pieces
pieces_timed pieces formed = all_places IsTimedPiece pieces (λ i piece e. (formed.each i piece e).timed)

folds_timed : (folds : List (Option FoldPlan)) (pieces : List Piece) → AllByRecursion IsTimedPiece pieces → AllByRecursion IsTimedPiece (map (folded folds) pieces)
folds_timed folds [] all = tt
folds_timed folds (piece ∷ pieces) all = (all.0, folds_timed folds pieces all.1)

fragments_timed : (fragments : List Fragment) → AllByRecursion IsTimedPiece (pieces_of fragments) → AllByRecursion IsTimedFragment fragments
fragments_timed [] all = tt
fragments_timed (fragment ∷ fragments) all = (all.0, fragments_timed fragments all.1)

-- fragments with folds have the times of those without
pub still_timed : (folds : List (Option FoldPlan)) (pieces : List Piece) (more : List Fragment) → AreWellFormed pieces → pieces_of more ≡ map (folded folds) pieces → All IsTimedFragment more
still_timed folds pieces more formed e =
    All-from_recursion IsTimedFragment more
    (fragments_timed more (subst (AllByRecursion IsTimedPiece) (sym e) (folds_timed folds pieces (pieces_timed pieces formed))))

pub still_few : (folds : List (Option FoldPlan)) (pieces : List Piece) (more : List Fragment) → AreWellFormed pieces → pieces_of more ≡ map (folded folds) pieces → length more ≤ 1000
still_few folds pieces more formed e =
    let few = formed.few in
    let same : length more ≡ length pieces = sym (length-map more piece_of) ∙ (ap length e ∙ length-map pieces (folded folds)) in
    omega (arith, few, same)
