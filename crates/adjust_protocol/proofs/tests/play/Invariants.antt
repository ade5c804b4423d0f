use Rattle.std.proofs.Common.{◌≤◌}
use Rattle.adjust_protocol.proofs.tests.play.Given as goal

abbrev pub invariant-loop-line : goal.invariant-loop-line
invariant-loop-line g l = l.asks ≤ l.board.running.scan.room
