use Rattle.std.proofs.Common.{◌∙◌, refl}
use Rattle.std.specs.Option.{option_map}
use Rattle.rel_meaning.specs.Expression.{expression_of}
use Rattle.plan_tree.specs.Conjuncts.{conjuncts}
use Rattle.seq_optimizer.proofs.Costed.{join_costed}
use Rattle.seq_optimizer.proofs.costs.joined.Goals as goal

pub returns : goal.returns
returns c stats is a b h k keys tests =
    join_costed (conjuncts (option_map expression_of c.args.test.now)) stats c.args.sizes.now is c.args.kind a b c.args.first c.args.second h k keys tests c.join_cost.result
    (c.join_cost.ensures ∙ rw (c.step_cost-step.ensures.value, c.set_size-a.ensures, c.set_size-b.ensures, c.set_size.ensures) refl)
