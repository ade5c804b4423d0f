use Rattle.std.proofs.Common.{◌∙◌}
use Rattle.plan_tree.specs.Pieces.{pieces_of}
use Rattle.plan_tree.proofs.Lines.{plan_step}
use Rattle.plan_tree.proofs.explain.push_plans.Goals as goal

pub loop-statement-preserved : goal.loop-statement-preserved
loop-statement-preserved c =
    rw c.in_ok-push_statement.ensures
    (plan_step c.args.machine.now (pieces_of c.args.fragments.now) c.args.plans.now c.loop-statement.statement c.index-plans-statement.result c.loop-statement.out.items c.loop-statement-test.true c.index-plans-statement.is ∙ c.loop-statement.invariant)
