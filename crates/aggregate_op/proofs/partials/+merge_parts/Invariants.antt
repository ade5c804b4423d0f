use Rattle.std.proofs.Common.{vec_len}
use Rattle.aggregate_op.proofs.partials.+merge_parts.Given as goal

abbrev pub decreases-merge_parts : goal.decreases-merge_parts
decreases-merge_parts l = vec_len l.parts
