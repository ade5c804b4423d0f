use Rattle.std.proofs.Common.{length}
use Rattle.rel_meaning.specs.Expression.{question_of}
use Rattle.plan_tree.specs.Conjuncts.{conjuncts}
use Rattle.plan_tree.specs.Views.{shape_of}
use Rattle.std.proofs.Common.{true}
use Rattle.seq_optimizer.proofs.Scanned.{are_scans, tree_scans}
use Rattle.seq_optimizer.proofs.costs.cost.Goals as goal

pub tree_cost-requires-clause-scans : goal.tree_cost-requires-clause-scans
tree_cost-requires-clause-scans c =
    let q = question_of c.args.query.now in
    let t = shape_of c.args.tree.now in
    rw (c.items-2.ensures, c.requires.plan.each) (are_scans (length q.vars) t (tree_scans (conjuncts q.test) c.requires.tree.0 true (length q.vars) t c.requires.tree.1) c.requires.intervals)
