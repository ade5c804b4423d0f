use Rattle.std.proofs.Common.{◌≡◌, length}
use Rattle.engine_bench.proofs.control.mixed_scans.Given as goal

abbrev pub invariant-loop-number : goal.invariant-loop-number
invariant-loop-number l = length l.scans.items ≡ l.number
