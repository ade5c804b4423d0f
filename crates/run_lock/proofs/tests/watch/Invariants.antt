use Rattle.run_lock.specs.Passes.{IsFree}
use Rattle.run_lock.proofs.tests.watch.Given as goal

abbrev pub invariant-loop : goal.invariant-loop
invariant-loop g l = IsFree l.lock l.pass
