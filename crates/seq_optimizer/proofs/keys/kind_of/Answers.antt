use Rattle.std.proofs.Common.{◌∙◌, sym, ap, Bool, cond}
use Rattle.plan_tree.specs.declared.tree.Method.TheVariants.{Hash, Merge}
use Rattle.seq_optimizer.specs.Sets.{in_set}
use Rattle.seq_optimizer.proofs.Merging.{merge_at}
use Rattle.seq_optimizer.proofs.keys.kind_of.Goals as goal

pub returns-then-has_key : goal.returns-then-has_key
returns-then-has_key c = rw c.in-Merge.is (sym (merge_at (in_set c.args.first) (in_set c.args.second) c.args.conjuncts.now ∙ ap (λ (b : Bool). cond b Merge Hash) (sym c.has_key.ensures ∙ c.if-has_key.true)))

pub returns-else-has_key : goal.returns-else-has_key
returns-else-has_key c = rw c.in-Merge.is (sym (merge_at (in_set c.args.first) (in_set c.args.second) c.args.conjuncts.now ∙ ap (λ (b : Bool). cond b Merge Hash) (sym c.has_key.ensures ∙ c.if-has_key.false)))
