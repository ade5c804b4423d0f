use Rattle.std.proofs.Common.{◌∙◌, ap, ℕ, Bool}
use Rattle.rel_meaning.specs.Expression.{expression_of}
use Rattle.plan_tree.specs.Trees.{is_inside}
use Rattle.seq_optimizer.proofs.Sets.{either_set}
use Rattle.seq_optimizer.proofs.placing.is_inside_either.Goals as goal

pub returns : goal.returns
returns c = c.is_inside_set.ensures ∙ ap (λ (f : ℕ → Bool). is_inside f (expression_of c.args.conjunct.now)) (either_set c.args.first c.args.second)
