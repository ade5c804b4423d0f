use Rattle.std.proofs.Common.{length}
use Rattle.aggregate_op.proofs.parts.+put_joined_parts.Given as goal

abbrev pub decreases-put_joined_parts : goal.decreases-put_joined_parts
decreases-put_joined_parts l = length l.ops.now
