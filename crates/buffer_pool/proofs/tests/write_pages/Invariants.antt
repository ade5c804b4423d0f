use Rattle.std.proofs.Common.{◌≡◌, length}
use Rattle.buffer_pool.proofs.tests.write_pages.Given as goal

abbrev pub invariant-loop-number : goal.invariant-loop-number
invariant-loop-number g l = length l.drives ≡ length l.initial.drives
