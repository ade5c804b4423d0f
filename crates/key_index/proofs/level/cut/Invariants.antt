use Rattle.std.proofs.Common.{drop}
use Rattle.key_index.specs.Nodes.{level_blocks, node_items}
use Rattle.key_index.proofs.Nodes.{Cutting}
use Rattle.key_index.proofs.level.cut.Given as goal

abbrev pub invariant-loop-place : goal.invariant-loop-place
invariant-loop-place l = Cutting l.level (level_blocks l.entries l.nodes l.level) l.starts.items l.used l.place (drop l.place (node_items l.entries l.nodes))
