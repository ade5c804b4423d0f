use Rattle.std.proofs.Common.{length}
use Rattle.hash_join.proofs.key.+sides_order.Given as goal

abbrev pub decreases-sides_order : goal.decreases-sides_order
decreases-sides_order l = length l.columns.now
