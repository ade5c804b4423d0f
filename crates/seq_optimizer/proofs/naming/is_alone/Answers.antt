use Rattle.std.proofs.Common.{◌∙◌, ap, ℕ, Bool}
use Rattle.rel_meaning.specs.Expression.{expression_of}
use Rattle.plan_tree.specs.Trees.{is_inside}
use Rattle.seq_optimizer.specs.Sets.{in_set}
use Rattle.seq_optimizer.proofs.Sets.{one_set}
use Rattle.seq_optimizer.proofs.naming.is_alone.Goals as goal

pub returns : goal.returns
returns c =
    c.is_inside_set.ensures ∙ ap (λ (n : ℕ). is_inside (in_set n) (expression_of c.args.expr.now)) c.set_of.ensures ∙ ap (λ (f : ℕ → Bool). is_inside f (expression_of c.args.expr.now)) (one_set c.args.var)
