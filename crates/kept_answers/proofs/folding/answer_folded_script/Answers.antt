use Rattle.std.proofs.Common.{map, sym, subst}
use Rattle.rel_meaning.specs.Expression.{question_of}
use Rattle.kept_answers.specs.FoldedAnswers.{FitFolds}
use Rattle.kept_answers.proofs.FoldedRows.{script_folds}
use Rattle.kept_answers.proofs.folding.answer_folded_script.Goals as goal

pub answer_folds-requires : goal.answer_folds-requires
answer_folds-requires c =
    subst (FitFolds c.args.folds.now) (sym c.in_ok-answers.ensures)
    (script_folds c.args.db c.args.kept.now c.args.folds.now (map question_of c.args.queries.now) c.requires.tables c.requires.queries c.requires.folds)
