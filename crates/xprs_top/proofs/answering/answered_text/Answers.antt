use Rattle.std.proofs.Common.{map, arith}
use Rattle.kept_answers.specs.FoldedAnswers.{script_answers}
use Rattle.rel_meaning.specs.Expression.{question_of}
use Rattle.xprs_top.proofs.Answered.{answers_few, as_large, as_rows, folds_fit, kept_fit, large_few}
use Rattle.xprs_top.proofs.answering.answered_text.Goals as goal

pub answer_folded_script-requires-clause-queries : goal.answer_folded_script-requires-clause-queries
answer_folded_script-requires-clause-queries c = kept_fit c.args.checked.now c.args.db c.requires.over

pub answer_folded_script-requires-clause-folds : goal.answer_folded_script-requires-clause-folds
answer_folded_script-requires-clause-folds c = folds_fit c.args.checked.now c.args.db c.requires.over

pub shown_answers-requires : goal.shown_answers-requires
shown_answers-requires c =
    let read = c.args.checked.now.read in
    let are = as_rows (script_answers c.args.db read.kept read.folds (map question_of read.queries)) c.in_ok-answers.field-0 c.in-Rows.answers c.in-Rows.is c.in_ok-answers.ensures in
    rw (c.items-in-Rows-2.ensures, c.items-in-Rows.ensures) (answers_few c.args.checked.now c.args.db c.in-Rows.answers c.requires.over are)

pub overflow_cast-result : goal.overflow_cast-result
overflow_cast-result c =
    let read = c.args.checked.now.read in
    let few = large_few c.args.checked.now c.args.db c.in-TooLarge.statement c.requires.over
    (as_large (script_answers c.args.db read.kept read.folds (map question_of read.queries)) c.in_ok-answers.field-0 c.in-TooLarge.statement c.in-TooLarge.is c.in_ok-answers.ensures) in
    omega (arith, few)

pub overflow_add-result : goal.overflow_add-result
overflow_add-result c =
    let read = c.args.checked.now.read in
    let few = large_few c.args.checked.now c.args.db c.in-TooLarge.statement c.requires.over
    (as_large (script_answers c.args.db read.kept read.folds (map question_of read.queries)) c.in_ok-answers.field-0 c.in-TooLarge.statement c.in-TooLarge.is c.in_ok-answers.ensures) in
    omega (arith, few)
