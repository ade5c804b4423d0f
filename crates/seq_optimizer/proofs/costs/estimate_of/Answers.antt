use Rattle.std.proofs.Common.{◌∙◌, arith, length, refl}
use Rattle.rel_meaning.specs.Expression.{question_of}
use Rattle.plan_tree.specs.Views.{shape_of}
use Rattle.seq_optimizer.proofs.Scanned.{scans_within}
use Rattle.seq_optimizer.proofs.costs.estimate_of.Goals as goal

pub tree_set-requires : goal.tree_set-requires
tree_set-requires c = (let few = c.requires.plan.few in scans_within (length (question_of c.args.query.now).vars) 32 (shape_of c.args.tree.now) (omega arith) c.requires.scans)

pub returns : goal.returns
returns c = c.set_size.ensures ∙ rw (c.fill_sizes.ensures, c.items.ensures, c.tree_set.ensures) refl
