use Rattle.std.proofs.Common.{◌≡◌, replicate}
use Rattle.xp_outside.proofs.memory_drive.zeros.Given as goal

abbrev pub invariant-loop-made : goal.invariant-loop-made
invariant-loop-made l = l.pages.items ≡ replicate l._made (replicate 8192 0)
