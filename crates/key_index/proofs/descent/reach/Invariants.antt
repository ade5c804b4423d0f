use Rattle.std.proofs.Common.{None}
use Rattle.heap_page.specs.Sources.{AreCalm}
use Rattle.key_index.proofs.Searches.{Descent}
use Rattle.key_index.proofs.descent.reach.Given as goal

abbrev pub invariant-loop-level : goal.invariant-loop-level
invariant-loop-level g l =
    Descent g.P.PageSource.image l.index (g.P.PageSource.whole l.fn.pages) (g.P.PageSource.whole l.pages) (g.P.PageSource.faults l.fn.pages) (g.P.PageSource.faults l.pages) l.aim l.level l.page l.left
    × AreCalm (g.P.PageSource.lone (g.P.PageSource.whole l.fn.pages)) None (g.P.PageSource.faults l.fn.pages) (g.P.PageSource.faults l.pages)
