use Rattle.query_planner.proofs.Counted.{some_left}
use Rattle.query_planner.proofs.Left.{some_bound}
use Rattle.query_planner.proofs.counting.left_by.Goals as goal

pub returns-clause-told : goal.returns-clause-told
returns-clause-told g c = λ f stored is holds. some_left c.args.bounds.now stored c.in_ok-interval.field-0 c.if-is_empty.ensures (c.in_ok-interval.ensures.told f stored.entries is holds)

pub returns-clause-left : goal.returns-clause-left
returns-clause-left g c = some_bound (g.P.PageSource.image (g.P.PageSource.whole c.args.pages.now)) c.args.bounds.now c.args.index.now c.in_ok-interval.field-0 c.if-is_empty.ensures c.in_ok-interval.ensures.within c.in_ok-interval.ensures.path
