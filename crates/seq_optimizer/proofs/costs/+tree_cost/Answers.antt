use Rattle.std.proofs.Common.{map}
use Rattle.std.specs.Option.{option_map}
use Rattle.rel_meaning.specs.Expression.{expression_of}
use Rattle.plan_tree.specs.Conjuncts.{conjuncts}
use Rattle.plan_tree.specs.Views.{shape_of}
use Rattle.seq_optimizer.proofs.costs.+tree_cost.Goals as goal

pub returns-in-Scan : goal.returns-in-Scan
returns-in-Scan t c = rw c.in-Scan.is (c.scan_costed.ensures (conjuncts (option_map expression_of c.args.test.now)) (map expression_of c.in-Scan.tests))

pub returns-in-Join : goal.returns-in-Join
returns-in-Join t c =
    let first = rw c.deref.ensures at c.tree_cost-first.ensures in
    let second = rw c.deref-in-Join.ensures at c.tree_cost-second.ensures in
    rw c.in-Join.is (c.joined.ensures c.args.stats.now c.requires.sizes (shape_of c.in-Join.build.value) (shape_of c.in-Join.probe.value) first second c.in-Join.keys (map expression_of c.in-Join.tests))

pub returns-in-Merge : goal.returns-in-Merge
returns-in-Merge t c =
    let first = rw c.deref-in-Merge.ensures at c.tree_cost-first-in-Merge.ensures in
    let second = rw c.deref-in-Merge-2.ensures at c.tree_cost-second-in-Merge.ensures in
    rw c.in-Merge.is (c.joined-in-Merge.ensures c.args.stats.now c.requires.sizes (shape_of c.in-Merge.left.value) (shape_of c.in-Merge.right.value) first second c.in-Merge.keys (map expression_of c.in-Merge.tests))
