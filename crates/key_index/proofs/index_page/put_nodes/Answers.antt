use Rattle.key_index.proofs.PageBytes.{node_put}
use Rattle.key_index.proofs.index_page.put_nodes.Goals as goal

pub loop-node-preserved : goal.loop-node-preserved
loop-node-preserved c = node_put c.args.entries.now c.args.nodes.now c.args.level c.loop-node.node-index _ c.loop-node.out.items c.put_node.new.out.items _ c.loop-node-test.true c.loop-node.invariant c.in_ok-put_node.ensures
