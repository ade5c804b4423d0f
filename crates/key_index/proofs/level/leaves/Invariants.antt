use Rattle.std.proofs.Common.{◌≡◌, ◌++◌, ◌+◌, drop}
use Rattle.key_index.specs.Nodes.{leaf_nodes}
use Rattle.key_index.proofs.level.leaves.Given as goal

abbrev pub invariant-loop-place : goal.invariant-loop-place
invariant-loop-place l = l.nodes.items ++ leaf_nodes (0 + l.place) (drop l.place l.entries) ≡ leaf_nodes 0 l.entries
