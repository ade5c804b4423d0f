use Rattle.std.proofs.Common.{arith}
use Rattle.std.proofs.lemmas.List.{length-map}
use Rattle.key_index.specs.Nodes.{level_blocks, node_item, node_items}
use Rattle.key_index.proofs.Nodes.{cut_starts, laid_none, small_items, step_ends, step_more, step_turns}
use Rattle.key_index.proofs.level.cut.Goals as goal
use Rattle.key_index.proofs.level.cut.Goals.{then-used-size, else-used-size+in_ok-push}

pub loop-place-init : goal.loop-place-init
loop-place-init c =
    rw c.in_ok-starts.ensures.items (cut_starts c.args.level (level_blocks c.args.entries.now c.args.nodes.now c.args.level) (node_items c.args.entries.now c.args.nodes.now)
    (laid_none c.args.level (node_items c.args.entries.now c.args.nodes.now) (omega (arith, c.requires.some, length-map c.args.nodes.now (node_item c.args.entries.now))) (small_items c.args.entries.now c.args.nodes.now c.requires.keys c.requires.nodes)))

pub loop-place-preserved : goal.loop-place-preserved
loop-place-preserved c =
    elim c.if-used-size.branch [
      | then-used-size w ↦ rw (w.starts-is, w.used-is) (step_more c.args.entries.now c.args.nodes.now c.args.level (level_blocks c.args.entries.now c.args.nodes.now c.args.level) c.loop-place.starts.items c.loop-place.used c.loop-place.place c.node_size-size.result _ c.loop-place-test.true c.loop-place.invariant c.node_size-size.ensures.value w.if-used-size.true)
      | else-used-size+in_ok-push w ↦ rw (w.starts-is, w.used-is, w.in_ok-push.ensures.items) (step_turns c.args.entries.now c.args.nodes.now c.args.level (level_blocks c.args.entries.now c.args.nodes.now c.args.level) c.loop-place.starts.items c.loop-place.used c.loop-place.place c.node_size-size.result _ c.loop-place-test.true c.loop-place.invariant c.node_size-size.ensures.value c.node_size-size.ensures.small w.if-used-size.false)
    ]

pub returns : goal.returns
returns c = step_ends c.args.entries.now c.args.nodes.now c.args.level (level_blocks c.args.entries.now c.args.nodes.now c.args.level) c.loop-place.starts.items c.loop-place.used c.loop-place.place c.loop-place-test.false c.loop-place.invariant
