use Rattle.run_lock.specs.Passes.{IsFree}
use Rattle.engine_bench.proofs.lock.take_turns.Given as goal

abbrev pub invariant-loop-turn : goal.invariant-loop-turn
invariant-loop-turn g l = IsFree l.lock l.pass
