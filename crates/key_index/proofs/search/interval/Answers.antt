use Rattle.std.proofs.Common.{◌+◌, List, None, drop, ap, subst, ◌∙◌}
use Rattle.std.proofs.lemmas.List.{drop_all}
use Rattle.std.proofs.lemmas.Result.{err_from_is_err_and}
use Rattle.rows.specs.declared.plain.Bound.{Bound}
use Rattle.key_index.specs.Intervals.{interval_of}
use Rattle.key_index.specs.Paths.{HasInterval, IfBad, StopsInterval}
use Rattle.key_index.proofs.Narrowings.{Narrowing, begins, narrows, found, bound_here, interval_found, interval_stops}
use Rattle.heap_page.proofs.Calm.{calm_start, calm_then}
use Rattle.key_index.proofs.search.interval.Goals as goal

pub loop-bound-init : goal.loop-bound-init
loop-bound-init g c = (
  begins g.P.PageSource.image c.args.index.now c.items-bound-items.result.now (g.P.PageSource.whole c.args.pages.now) (g.P.PageSource.faults c.args.pages.now),
  calm_start (g.P.PageSource.lone (g.P.PageSource.whole c.args.pages.now)) (g.P.PageSource.faults c.args.pages.now),
)

pub loop-bound-preserved : goal.loop-bound-preserved
loop-bound-preserved g c = (
  narrows g.P.PageSource.image c.args.index.now c.items-bound-items.result.now (g.P.PageSource.whole c.args.pages.now) (g.P.PageSource.faults c.args.pages.now) (g.P.PageSource.whole c.loop-bound.pages) (g.P.PageSource.whole c.narrow.new.pages) (g.P.PageSource.faults c.loop-bound.pages) (g.P.PageSource.faults c.narrow.new.pages) c.loop-bound.ends c.in_ok-ends.ends c.bound-item.result (drop (c.loop-bound.bound-index + 1) c.items-bound-items.result.now)
      (subst (λ (bs : List Bound). Narrowing g.P.PageSource.image c.args.index.now c.items-bound-items.result.now (g.P.PageSource.whole c.args.pages.now) (g.P.PageSource.whole c.loop-bound.pages) (g.P.PageSource.faults c.args.pages.now) (g.P.PageSource.faults c.loop-bound.pages) c.loop-bound.ends bs)
      (bound_here c.items-bound-items.result.now c.loop-bound.bound-index c.bound-item.result c.loop-bound-test.true c.bound-item.is) c.loop-bound.invariant.0)
      c.in_ok-ends.ensures.whole c.in_ok-ends.ensures.counts c.in_ok-ends.ensures.within c.in_ok-ends.ensures.told c.in_ok-ends.ensures.path,
  calm_then g.P.PageSource.lone (g.P.PageSource.whole c.args.pages.now) (g.P.PageSource.whole c.loop-bound.pages) None (g.P.PageSource.faults c.args.pages.now) (g.P.PageSource.faults c.loop-bound.pages) (g.P.PageSource.faults c.narrow.new.pages) c.loop-bound.invariant.0.same c.loop-bound.invariant.1 c.in_ok-ends.ensures.quiet,
)

pub returns-clause-told : goal.returns-clause-told
returns-clause-told g c = λ f entries is holds.
    found g.P.PageSource.image c.args.index.now c.items-bound-items.result.now (g.P.PageSource.whole c.args.pages.now) (g.P.PageSource.faults c.args.pages.now) (g.P.PageSource.whole c.loop-bound.pages) (g.P.PageSource.faults c.loop-bound.pages) c.loop-bound.ends
    (subst (λ (bs : List Bound). Narrowing g.P.PageSource.image c.args.index.now c.items-bound-items.result.now (g.P.PageSource.whole c.args.pages.now) (g.P.PageSource.whole c.loop-bound.pages) (g.P.PageSource.faults c.args.pages.now) (g.P.PageSource.faults c.loop-bound.pages) c.loop-bound.ends bs)
    (drop_all c.loop-bound.bound-index c.items-bound-items.result.now c.loop-bound-test.false) c.loop-bound.invariant.0)
    c.max.result c.max.ensures f entries is holds
    ∙ ap (λ (bs : List Bound). interval_of bs entries) c.items-bound-items.ensures

pub returns-in_err-ends-clause-path : goal.returns-in_err-ends-clause-path
returns-in_err-ends-clause-path g c = λ f is.
    let p = err_from_is_err_and c.from_residual.result c.from_residual.ensures.1 in
    rw (p.1, p.2) (subst (λ (bs : List Bound). IfBad (StopsInterval c.args.index.now (f c.args.index.now.file) bs) c.in_err-ends.field-0.0) c.items-bound-items.ensures
    (interval_stops g.P.PageSource.image c.args.index.now c.items-bound-items.result.now (g.P.PageSource.whole c.args.pages.now) (g.P.PageSource.faults c.args.pages.now) (g.P.PageSource.whole c.loop-bound.pages) (g.P.PageSource.faults c.loop-bound.pages) c.loop-bound.ends c.bound-item.result (drop (c.loop-bound.bound-index + 1) c.items-bound-items.result.now)
    (subst (λ (bs : List Bound). Narrowing g.P.PageSource.image c.args.index.now c.items-bound-items.result.now (g.P.PageSource.whole c.args.pages.now) (g.P.PageSource.whole c.loop-bound.pages) (g.P.PageSource.faults c.args.pages.now) (g.P.PageSource.faults c.loop-bound.pages) c.loop-bound.ends bs)
    (bound_here c.items-bound-items.result.now c.loop-bound.bound-index c.bound-item.result c.loop-bound-test.true c.bound-item.is) c.loop-bound.invariant.0)
    f is c.in_err-ends.field-0.0 (c.in_err-ends.ensures.path f)))

pub returns-clause-path : goal.returns-clause-path
returns-clause-path g c = λ f is.
    subst (λ (bs : List Bound). HasInterval c.args.index.now (f c.args.index.now.file) bs (record { from = c.loop-bound.ends.from; upto = c.max.result })) c.items-bound-items.ensures
    (interval_found g.P.PageSource.image c.args.index.now c.items-bound-items.result.now (g.P.PageSource.whole c.args.pages.now) (g.P.PageSource.faults c.args.pages.now) (g.P.PageSource.whole c.loop-bound.pages) (g.P.PageSource.faults c.loop-bound.pages) c.loop-bound.ends
    (subst (λ (bs : List Bound). Narrowing g.P.PageSource.image c.args.index.now c.items-bound-items.result.now (g.P.PageSource.whole c.args.pages.now) (g.P.PageSource.whole c.loop-bound.pages) (g.P.PageSource.faults c.args.pages.now) (g.P.PageSource.faults c.loop-bound.pages) c.loop-bound.ends bs)
    (drop_all c.loop-bound.bound-index c.items-bound-items.result.now c.loop-bound-test.false) c.loop-bound.invariant.0)
    c.max.result c.max.ensures f is)

pub returns-in_err-ends-clause-quiet : goal.returns-in_err-ends-clause-quiet
returns-in_err-ends-clause-quiet g c =
    let p = err_from_is_err_and c.from_residual.result c.from_residual.ensures.1 in
    rw (p.1, p.2) (calm_then g.P.PageSource.lone (g.P.PageSource.whole c.args.pages.now) (g.P.PageSource.whole c.loop-bound.pages) _ (g.P.PageSource.faults c.args.pages.now) (g.P.PageSource.faults c.loop-bound.pages) (g.P.PageSource.faults c.narrow.new.pages) c.loop-bound.invariant.0.same c.loop-bound.invariant.1 c.in_err-ends.ensures.quiet)
