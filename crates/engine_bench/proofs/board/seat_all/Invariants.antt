use Rattle.std.proofs.Common.{◌+◌, ◌≤◌}
use Rattle.engine_bench.proofs.board.seat_all.Given as goal

abbrev pub invariant-loop-role : goal.invariant-loop-role
invariant-loop-role g l = l.initial.board.running.scan.room ≤ l.board.running.scan.room + l._role
