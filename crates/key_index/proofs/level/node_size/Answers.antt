use Rattle.key_index.specs.Nodes.{node_item}
use Rattle.key_index.proofs.Nodes.{sized, tail_above, tail_leaf}
use Rattle.key_index.proofs.level.node_size.Goals as goal

pub returns-then-level-eq0-clause-value : goal.returns-then-level-eq0-clause-value
returns-then-level-eq0-clause-value c =
    sized c.args.entries.now c.args.node c.args.level c.value_size-key.result 6 _ c.requires.node.0 c.value_size-key.ensures.value
    (tail_leaf c.args.level (node_item c.args.entries.now c.args.node) c.if-level-eq0.true)

pub returns-else-level-eq0-clause-value : goal.returns-else-level-eq0-clause-value
returns-else-level-eq0-clause-value c =
    sized c.args.entries.now c.args.node c.args.level c.value_size-key.result 8 _ c.requires.node.0 c.value_size-key.ensures.value
    (tail_above c.args.level (node_item c.args.entries.now c.args.node) c.if-level-eq0.false)
