use Rattle.std.proofs.Common.{◌≡◌, ◌+◌, ◌++◌, reverse, vec_len}
use Rattle.aggregate_op.specs.Joined.{merged}
use Rattle.aggregate_op.proofs.merging.merge_rows.Given as goal

abbrev pub invariant-loop-rows : goal.invariant-loop-rows
invariant-loop-rows l = l.rows.items ++ merged l.fold (reverse l.left.items) (reverse l.right.items) ≡ merged l.fold l.fn.left.items l.fn.right.items

abbrev pub decreases-loop-rows : goal.decreases-loop-rows
decreases-loop-rows l = vec_len l.left + vec_len l.right
