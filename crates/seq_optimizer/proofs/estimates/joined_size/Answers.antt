use Rattle.std.proofs.Common.{◌∙◌}
use Rattle.rel_meaning.specs.Expression.{expression_of}
use Rattle.plan_tree.specs.Conjuncts.{operands}
use Rattle.seq_optimizer.specs.Sets.{in_set}
use Rattle.seq_optimizer.proofs.Sizes.{divided_all}
use Rattle.seq_optimizer.proofs.estimates.joined_size.Goals as goal

pub returns-in-Some : goal.returns-in-Some
returns-in-Some c = rw c.in-Some.is (c.divided_by_all.ensures ∙ divided_all (in_set c.args.set) c.args.sizes.now c.args.product (operands (expression_of c.in-Some.expr)))
