-- A fragment whose answer is folded.
use Rattle.std.proofs.Common.{◌≡◌, ℕ, Bool, true, false, List, Option, Some, None, refl, sym, ◌∙◌}
use Rattle.aggregate_op.specs.declared.fold.Fold.{Fold}
use Rattle.aggregate_op.specs.declared.fold.FoldPlan.{FoldPlan}
use Rattle.plan_tree.specs.declared.fragment.End.{End}
use Rattle.plan_tree.specs.declared.fragment.End.TheVariants as end
use Rattle.plan_tree.specs.declared.fragment.Fragment.{Fragment}
use Rattle.plan_tree.specs.Ends.{IsAnswer, end_with, fragment_with}
use Rattle.plan_tree.specs.Pieces.{ending_of, piece_of}
use Rattle.fragments.specs.Folds.{fold_at, folded, folded_end, is_answer}

other_end : (o : Option Fold) (e : End) → is_answer e ≡ false → folded_end o (ending_of e) ≡ ending_of e
other_end None e h = refl
other_end (Some fold) (end.Build keys) h = refl
other_end (Some fold) (end.Answer targets unique keys) h = cc
other_end (Some fold) (end.Fold targets other) h = refl
other_end (Some fold) (end.Sort keys) h = refl

answer_end : (fold : Fold) (e : End) → ending_of (end_with e fold) ≡ folded_end (Some fold) (ending_of e)
answer_end fold (end.Build keys) = refl
answer_end fold (end.Answer targets unique keys) = refl
answer_end fold (end.Fold targets other) = refl
answer_end fold (end.Sort keys) = refl

pub is_answered : (e : End) → is_answer e ≡ true → IsAnswer e
is_answered (end.Build keys) h = cc
is_answered (end.Answer targets unique keys) h = tt
is_answered (end.Fold targets other) h = cc
is_answered (end.Sort keys) h = cc

pub not_folded : (folds : List (Option FoldPlan)) (f : Fragment) → is_answer f.end ≡ false → piece_of f ≡ folded folds (piece_of f)
not_folded folds f h = sym (λ i. record { statement = f.statement; pipe = (piece_of f).pipe; end = other_end (fold_at folds f.statement) f.end h i; layout = f.layout; positions = f.positions; pages = f.pages; time = f.time })

pub without_fold : (folds : List (Option FoldPlan)) (f : Fragment) → fold_at folds f.statement ≡ None → piece_of f ≡ folded folds (piece_of f)
without_fold folds f h = sym (λ i. record { statement = f.statement; pipe = (piece_of f).pipe; end = folded_end (h i) (ending_of f.end); layout = f.layout; positions = f.positions; pages = f.pages; time = f.time })

pub with_its_fold : (folds : List (Option FoldPlan)) (f : Fragment) (fold : Fold) → fold_at folds f.statement ≡ Some fold → piece_of (fragment_with f fold) ≡ folded folds (piece_of f)
with_its_fold folds f fold h =
    (λ i. record { statement = f.statement; pipe = (piece_of f).pipe; end = answer_end fold f.end i; layout = f.layout; positions = f.positions; pages = f.pages; time = f.time })
    ∙ (λ i. record { statement = f.statement; pipe = (piece_of f).pipe; end = folded_end (sym h i) (ending_of f.end); layout = f.layout; positions = f.positions; pages = f.pages; time = f.time })
