use Rattle.std.proofs.Common.{◌≡◌}
use Rattle.engine_bench.proofs.look_ups.count_right.Given as goal

abbrev pub invariant-loop-call : goal.invariant-loop-call
invariant-loop-call g l = g.P.PageSource.whole l.pages ≡ g.P.PageSource.whole l.initial.pages
