use Rattle.std.proofs.Common.{◌∙◌, List, ap, map}
use Rattle.rel_meaning.specs.declared.query.Query.{Query}
use Rattle.rel_meaning.specs.Expression.{question_of}
use Rattle.query_planner.proofs.Sample.{sample_plans}
use Rattle.query_planner.proofs.tests.planned.Goals as goal

pub plan_queries-requires-clause-queries : goal.plan_queries-requires-clause-queries
plan_queries-requires-clause-queries g c =
    sample_plans c.args.ground.relations c.in_ok-kept.kept (map question_of c.deref-2.result.now)
    c.requires.relations c.in_ok-kept.ensures
    (ap (λ (qs : List Query). map question_of qs) c.deref-2.ensures.value ∙ c.in_ok-queries.ensures)
