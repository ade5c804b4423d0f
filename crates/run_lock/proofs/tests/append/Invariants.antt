use Rattle.run_lock.specs.Passes.{IsFree}
use Rattle.run_lock.proofs.tests.append.Given as goal

abbrev pub invariant-loop-number : goal.invariant-loop-number
invariant-loop-number g l = IsFree l.lock l.pass
