use Rattle.std.proofs.Common.{None, drop}
use Rattle.heap_page.specs.Sources.{AreCalm}
use Rattle.key_index.proofs.Narrowings.{Narrowing}
use Rattle.key_index.proofs.search.interval.Given as goal

abbrev pub invariant-loop-bound : goal.invariant-loop-bound
invariant-loop-bound g l =
    Narrowing g.P.PageSource.image l.index l.bound-items (g.P.PageSource.whole l.fn.pages) (g.P.PageSource.whole l.pages) (g.P.PageSource.faults l.fn.pages) (g.P.PageSource.faults l.pages) l.ends (drop l.bound-index l.bound-items)
    × AreCalm (g.P.PageSource.lone (g.P.PageSource.whole l.fn.pages)) None (g.P.PageSource.faults l.fn.pages) (g.P.PageSource.faults l.pages)
