use Rattle.std.proofs.lemmas.Result.{err_from_is_err_and}
use Rattle.query_planner.proofs.planning.plan_of.Goals as goal

pub returns-in_err-stats-clause-told : goal.returns-in_err-stats-clause-told
returns-in_err-stats-clause-told g c = λ tables tells.
    let p = err_from_is_err_and c.from_residual.result c.from_residual.ensures.1 in
    rw (p.1, p.2) (c.in_err-stats.ensures.told tables tells)
