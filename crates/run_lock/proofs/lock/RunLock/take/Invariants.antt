use Rattle.std.proofs.Common.{◌≡◌}
use Rattle.run_lock.specs.Passes.{IsFree, IsSamePass, seen_of}
use Rattle.run_lock.proofs.lock.RunLock.take.Given as goal

abbrev pub invariant-loop : goal.invariant-loop
invariant-loop g l = record {
  free : IsFree l.self l.pass;
  same : IsSamePass l.fn.pass l.pass;
  number : seen_of l.pass ≡ seen_of l.fn.pass;
}
