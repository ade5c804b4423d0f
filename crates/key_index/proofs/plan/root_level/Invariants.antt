use Rattle.std.proofs.Common.{length}
use Rattle.key_index.specs.Nodes.{IsLevel}
use Rattle.key_index.proofs.plan.root_level.Given as goal

abbrev pub invariant-loop-alloc : goal.invariant-loop-alloc
invariant-loop-alloc l = IsLevel l.entries l.level

abbrev pub decreases-loop-alloc : goal.decreases-loop-alloc
decreases-loop-alloc l = length l.level.nodes.items
