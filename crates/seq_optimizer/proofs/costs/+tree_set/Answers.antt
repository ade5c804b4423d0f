use Rattle.std.proofs.Common.{◌∙◌, ap, ℕ}
use Rattle.plan_tree.specs.Trees.{has}
use Rattle.plan_tree.specs.Views.{shape_of}
use Rattle.seq_optimizer.specs.Sets.{in_set}
use Rattle.seq_optimizer.proofs.Costed.{both_set}
use Rattle.seq_optimizer.proofs.Sets.{one_set}
use Rattle.seq_optimizer.proofs.costs.+tree_set.Goals as goal

pub returns-in-Scan : goal.returns-in-Scan
returns-in-Scan t c = rw c.in-Scan.is (ap (λ (n : ℕ). in_set n) c.set_of.ensures ∙ one_set c.in-Scan.var)

pub returns-in-Join : goal.returns-in-Join
returns-in-Join t c =
    let first = rw c.deref.ensures at c.tree_set.ensures in
    let second = rw c.deref-in-Join.ensures at c.tree_set-in-Join.ensures in
    rw c.in-Join.is (both_set c.tree_set.result c.tree_set-in-Join.result (has (shape_of c.in-Join.build.value)) (has (shape_of c.in-Join.probe.value)) first second)

pub returns-in-Merge : goal.returns-in-Merge
returns-in-Merge t c =
    let first = rw c.deref-in-Merge.ensures at c.tree_set-in-Merge.ensures in
    let second = rw c.deref-in-Merge-2.ensures at c.tree_set-in-Merge-2.ensures in
    rw c.in-Merge.is (both_set c.tree_set-in-Merge.result c.tree_set-in-Merge-2.result (has (shape_of c.in-Merge.left.value)) (has (shape_of c.in-Merge.right.value)) first second)
