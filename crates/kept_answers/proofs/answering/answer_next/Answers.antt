use Rattle.rel_meaning.specs.Expression.{question_of}
use Rattle.kept_answers.proofs.Fitting.{can_be_asked, fit_length, fit_next}
use Rattle.kept_answers.proofs.answering.answer_next.Goals as goal

pub answer_over-requires-clause-each : goal.answer_over-requires-clause-each
answer_over-requires-clause-each c =
    let relations = c.args.relations.now in
    rw c.as_slice.ensures.value (fit_length relations.columns.items relations.tables c.requires.fit)

pub answer_over-requires-clause-asked : goal.answer_over-requires-clause-asked
answer_over-requires-clause-asked c =
    let relations = c.args.relations.now in
    rw c.as_slice.ensures.value (can_be_asked relations.columns.items relations.tables (question_of c.args.query.now) c.requires.fit c.requires.resolved)

pub returns-clause-fit : goal.returns-clause-fit
returns-clause-fit c =
    let relations = c.args.relations.now in
    rw (c.in_ok-keep_answer.ensures.tables, c.in_ok-keep_answer.ensures.columns, c.in_ok-rows.ensures)
    (fit_next relations.columns.items relations.tables (question_of c.args.query.now) c.args.kept c.requires.fit c.requires.kept)
