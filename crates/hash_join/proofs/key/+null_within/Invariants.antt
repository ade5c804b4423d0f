use Rattle.std.proofs.Common.{length}
use Rattle.hash_join.proofs.key.+null_within.Given as goal

abbrev pub decreases-null_within : goal.decreases-null_within
decreases-null_within l = length l.columns.now
