use Rattle.std.proofs.Common.{◌≡◌}
use Rattle.xp_outside.specs.Memory.{drive_size}
use Rattle.buffer_pool.proofs.tests.numbered_drive.Given as goal

abbrev pub invariant-loop-number : goal.invariant-loop-number
invariant-loop-number l = drive_size l.drive ≡ l.pages
