use Rattle.kept_answers.proofs.Fitting.{database_fits}
use Rattle.kept_answers.proofs.answering.answer_script.Goals as goal

pub answer_all-requires-clause-fit : goal.answer_all-requires-clause-fit
answer_all-requires-clause-fit c = rw (c.in_ok-relations.ensures.tables, c.in_ok-relations.ensures.columns) (database_fits c.args.db c.requires.tables)
