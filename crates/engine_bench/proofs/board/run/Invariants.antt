use Rattle.std.proofs.Common.{◌+◌, ◌*◌, ◌≤◌}
use Rattle.engine_bench.proofs.board.run.Given as goal

abbrev pub invariant-loop-step : goal.invariant-loop-step
invariant-loop-step g l = 11 * 200000 ≤ l.board.running.scan.room + 11 * l.step
