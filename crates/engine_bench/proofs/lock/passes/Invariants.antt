use Rattle.std.specs.List.{All}
use Rattle.run_lock.specs.Passes.{IsFree}
use Rattle.engine_bench.proofs.lock.passes.Given as goal

abbrev pub invariant-loop-thread : goal.invariant-loop-thread
invariant-loop-thread l = record {
  team : All (λ p. IsFree l.lock p) l.team.items;
  free : IsFree l.lock l.pass;
}
