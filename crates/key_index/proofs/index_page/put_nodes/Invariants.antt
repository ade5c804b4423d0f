use Rattle.std.proofs.Common.{◌≡◌, ◌++◌, drop}
use Rattle.std.specs.List.{flat_map}
use Rattle.key_index.specs.Bytes.{item_bytes}
use Rattle.key_index.specs.Nodes.{node_items}
use Rattle.key_index.proofs.index_page.put_nodes.Given as goal

abbrev pub invariant-loop-node : goal.invariant-loop-node
invariant-loop-node l = l.out.items ++ flat_map (item_bytes l.level) (drop l.node-index (node_items l.entries l.nodes)) ≡ l.fn.out.items ++ flat_map (item_bytes l.level) (node_items l.entries l.nodes)
