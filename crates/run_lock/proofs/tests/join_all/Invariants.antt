use Rattle.std.specs.List.{All}
use Rattle.std.specs.Vec.Iter.{into_iter_items}
use Rattle.run_lock.specs.Passes.{IsFree}
use Rattle.run_lock.proofs.tests.join_all.Given as goal

abbrev pub invariant-loop-other : goal.invariant-loop-other
invariant-loop-other l = record {
  left : All (λ p. IsFree l.lock p) (into_iter_items l.other-iterator);
  free : IsFree l.lock l.pass;
}
