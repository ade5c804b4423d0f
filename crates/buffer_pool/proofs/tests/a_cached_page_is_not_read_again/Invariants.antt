use Rattle.std.proofs.Common.{◌≤◌}
use Rattle.xp_outside.specs.Memory.{drive_size}
use Rattle.buffer_pool.proofs.tests.a_cached_page_is_not_read_again.Given as goal

abbrev pub invariant-loop-row : goal.invariant-loop-row
invariant-loop-row g l = 2 ≤ drive_size l.shard.drive
