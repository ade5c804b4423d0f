use Rattle.std.proofs.Common.{None}
use Rattle.std.proofs.lemmas.Result.{err_from_is_err_and}
use Rattle.heap_page.proofs.Calm.{calm_start, calm_then}
use Rattle.key_index.proofs.Searches.{starts, steps, stops, stops_at, ends, ends_at}
use Rattle.key_index.proofs.descent.reach.Goals as goal

pub loop-level-init : goal.loop-level-init
loop-level-init g c = (
  starts g.P.PageSource.image c.args.index.now (g.P.PageSource.whole c.args.pages.now) (g.P.PageSource.faults c.args.pages.now) c.args.aim c.requires.some.1 c.requires.some.0,
  calm_start (g.P.PageSource.lone (g.P.PageSource.whole c.args.pages.now)) (g.P.PageSource.faults c.args.pages.now),
)

pub returns-in_err-next-clause-told : goal.returns-in_err-next-clause-told
returns-in_err-next-clause-told g c = λ f entries is holds front.
    let p = err_from_is_err_and c.from_residual.result c.from_residual.ensures.1 in
    rw (p.1, p.2) (stops g.P.PageSource.image c.args.index.now (g.P.PageSource.whole c.args.pages.now) (g.P.PageSource.faults c.args.pages.now) c.args.aim (g.P.PageSource.whole c.loop-level.pages) (g.P.PageSource.faults c.loop-level.pages) c.loop-level.level c.loop-level.page c.loop-level.left _
    c.loop-level.invariant.0 c.loop-level-test.true c.in_err-next.ensures.told f entries is holds front)

pub loop-level-preserved : goal.loop-level-preserved
loop-level-preserved g c = (
  steps g.P.PageSource.image c.args.index.now (g.P.PageSource.whole c.args.pages.now) (g.P.PageSource.faults c.args.pages.now) c.args.aim (g.P.PageSource.whole c.loop-level.pages) (g.P.PageSource.whole c.step_down.new.pages) (g.P.PageSource.faults c.loop-level.pages) (g.P.PageSource.faults c.step_down.new.pages) c.loop-level.level c.loop-level.page c.loop-level.left c.in_ok-next.next c.in_ok-next.start
      c.loop-level.invariant.0 c.loop-level-test.true c.in_ok-next.ensures.whole c.in_ok-next.ensures.counts c.in_ok-next.ensures.within.0 c.in_ok-next.ensures.told c.in_ok-next.ensures.path,
  calm_then g.P.PageSource.lone (g.P.PageSource.whole c.args.pages.now) (g.P.PageSource.whole c.loop-level.pages) None (g.P.PageSource.faults c.args.pages.now) (g.P.PageSource.faults c.loop-level.pages) (g.P.PageSource.faults c.step_down.new.pages) c.loop-level.invariant.0.same c.loop-level.invariant.1 c.in_ok-next.ensures.quiet,
)

pub returns-clause-told : goal.returns-clause-told
returns-clause-told g c =
    ends g.P.PageSource.image c.args.index.now (g.P.PageSource.whole c.args.pages.now) (g.P.PageSource.faults c.args.pages.now) c.args.aim (g.P.PageSource.whole c.loop-level.pages) (g.P.PageSource.faults c.loop-level.pages) c.loop-level.level c.loop-level.page c.loop-level.left
    c.loop-level.invariant.0 c.loop-level-test.false

pub returns-in_err-next-clause-path : goal.returns-in_err-next-clause-path
returns-in_err-next-clause-path g c = λ f is.
    let p = err_from_is_err_and c.from_residual.result c.from_residual.ensures.1 in
    rw (p.1, p.2) (stops_at g.P.PageSource.image c.args.index.now (g.P.PageSource.whole c.args.pages.now) (g.P.PageSource.faults c.args.pages.now) c.args.aim (g.P.PageSource.whole c.loop-level.pages) (g.P.PageSource.faults c.loop-level.pages) c.loop-level.level c.loop-level.page c.loop-level.left _
    c.loop-level.invariant.0 c.loop-level-test.true c.in_err-next.ensures.path f is)

pub returns-clause-path : goal.returns-clause-path
returns-clause-path g c =
    ends_at g.P.PageSource.image c.args.index.now (g.P.PageSource.whole c.args.pages.now) (g.P.PageSource.faults c.args.pages.now) c.args.aim (g.P.PageSource.whole c.loop-level.pages) (g.P.PageSource.faults c.loop-level.pages) c.loop-level.level c.loop-level.page c.loop-level.left
    c.loop-level.invariant.0 c.loop-level-test.false

pub returns-in_err-next-clause-quiet : goal.returns-in_err-next-clause-quiet
returns-in_err-next-clause-quiet g c =
    let p = err_from_is_err_and c.from_residual.result c.from_residual.ensures.1 in
    rw (p.1, p.2) (calm_then g.P.PageSource.lone (g.P.PageSource.whole c.args.pages.now) (g.P.PageSource.whole c.loop-level.pages) _ (g.P.PageSource.faults c.args.pages.now) (g.P.PageSource.faults c.loop-level.pages) (g.P.PageSource.faults c.step_down.new.pages) c.loop-level.invariant.0.same c.loop-level.invariant.1 c.in_err-next.ensures.quiet)
