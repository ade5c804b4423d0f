use Rattle.std.proofs.Common.{◌∙◌}
use Rattle.plan_tree.proofs.Lines.{fragment_step}
use Rattle.plan_tree.proofs.explain.push_fragments.Goals as goal

pub loop-number-preserved : goal.loop-number-preserved
loop-number-preserved c =
    rw c.in_ok-push_fragment_of.ensures
    (fragment_step c.args.machine.now c.args.statement c.args.fragments.now c.loop-number.number c.index-fragments-number.result c.loop-number.out.items c.loop-number-test.true c.index-fragments-number.is ∙ c.loop-number.invariant)
