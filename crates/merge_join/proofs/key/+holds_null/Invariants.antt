use Rattle.std.proofs.Common.{length}
use Rattle.merge_join.proofs.key.+holds_null.Given as goal

abbrev pub decreases-holds_null : goal.decreases-holds_null
decreases-holds_null l = length l.keys.now
