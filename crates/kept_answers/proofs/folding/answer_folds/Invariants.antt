use Rattle.std.proofs.Common.{◌≡◌, ◌++◌, length, map, reverse, Some, vec_len}
use Rattle.kept_answers.specs.FoldedAnswers.{folded_answers, folded_from, FitFoldsFrom}
use Rattle.kept_answers.proofs.folding.answer_folds.Given as goal

-- the answers so far and those of the statements that are left, whose first one stands last
abbrev pub invariant-loop-rows : goal.invariant-loop-rows
invariant-loop-rows l = record {
  so_far : map (λ rows. Some rows) l.folded.items ++ folded_from l.folds (length l.folded.items) (reverse l.left.items) ≡ folded_answers l.folds l.fn.answers;
  fits : FitFoldsFrom l.folds (length l.folded.items) (reverse l.left.items);
}

abbrev pub decreases-loop-rows : goal.decreases-loop-rows
decreases-loop-rows l = vec_len l.left
