use Rattle.std.proofs.Common.{◌≡◌}
use Rattle.engine_bench.proofs.fetches.fetch_in_turn.Given as goal

abbrev pub invariant-loop-number : goal.invariant-loop-number
invariant-loop-number g l = g.P.PageSource.whole l.source ≡ g.P.PageSource.whole l.initial.source
