use Rattle.std.proofs.Common.{length, map}
use Rattle.plan_tree.specs.Views.{shape_of}
use Rattle.seq_optimizer.specs.Compared.{expression_at}
use Rattle.seq_optimizer.specs.Tables.{planned}
use Rattle.seq_optimizer.proofs.Chosen.{all_settled, found}
use Rattle.seq_optimizer.proofs.optimising.best_tree.Goals as goal

pub tree_of-requires : goal.tree_of-requires
tree_of-requires c =
    let s = all_settled (planned c.args.planner.now) c.in_ok-table.table.items (length c.args.planner.now.stats.now) c.first_vars-all.result c.requires.some c.first_vars-all.ensures.value c.in_ok-table.ensures.settled in
    rw c.as_slice.ensures.value (s.outline, s.says, s.set)

pub returns : goal.returns
returns c =
    found (map expression_at c.args.planner.now.conjuncts.now) c.args.planner.now.stats.now c.args.planner.now.method c.in_ok-table.table.items c.first_vars-all.result (shape_of c.in_ok-tree.tree) c.index.result.now c.requires.some
    c.first_vars-all.ensures.value c.in_ok-table.ensures.len c.in_ok-table.ensures.settled (rw c.as_slice.ensures.value at c.in_ok-tree.ensures) c.index.ensures
