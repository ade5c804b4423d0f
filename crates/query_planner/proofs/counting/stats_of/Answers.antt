use Rattle.std.proofs.Common.{◌≡◌, ◌∙◌, arith}
use Rattle.std.proofs.lemmas.Result.{err_from_is_err_and}
use Rattle.heap_page.proofs.Found.{one_at, there}
use Rattle.rel_meaning.specs.Expression.{question_of}
use Rattle.query_planner.proofs.Counted.{same_stats}
use Rattle.query_planner.proofs.counting.stats_of.Goals as goal

pub returns-in_err-interval-clause-told : goal.returns-in_err-interval-clause-told
returns-in_err-interval-clause-told g c = λ tables tells.
    let p = err_from_is_err_and c.from_residual.result c.from_residual.ensures.1 in
    let known = c.args.known.now in
    let here = there known.relations.now c.get.result.now.relation (omega arith) in
    let table = there tables c.get.result.now.relation (omega (arith, tells.are.count)) in
    rw (p.1, p.2) (c.in_err-interval.ensures.told tables table.0 here.0 tells table.1 here.1)

pub returns-clause-told : goal.returns-clause-told
returns-clause-told g c = λ tables tells v here table at_v at_r at_t.
    let same : v ≡ c.get.result.now = one_at c.args.query.now.vars c.args.var v c.get.result.now at_v c.get.ensures in
    let interval = c.in_ok-interval.ensures.told tables table here tells (rw (← same) at_t) (rw (← same) at_r) in
    let pages = c.counted.ensures.pages tables table tells.are (rw (← same) at_t) in
    let rows = c.counted.ensures.rows tables table tells.are (rw (← same) at_t) in
    let height = c.counted.ensures.height tables table tells.are (rw (← same) at_t) in
    same_stats c.counted.result (question_of c.args.query.now) c.args.var here table pages rows (c.counted.ensures.interval ∙ interval) height
