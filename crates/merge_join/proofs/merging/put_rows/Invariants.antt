use Rattle.std.proofs.Common.{◌≡◌, ◌≤◌, ◌-◌, ◌++◌, take, drop, length}
use Rattle.hash_join.specs.Table.{rows_of}
use Rattle.plan_tree.specs.Fragments.{matched}
use Rattle.merge_join.specs.Sides.{ArePassed}
use Rattle.merge_join.proofs.merging.put_rows.Given as goal

abbrev pub invariant-loop-number : goal.invariant-loop-number
invariant-loop-number l = record {
  within : l.start ≤ length (rows_of l.right.lists);
  passed : ArePassed l.first l.second l.keys (rows_of l.left.lists)
      (rows_of l.right.lists) l.number l.start;
  made : l.out.items ++ matched l.first l.second l.keys
      (take (l.upto - l.number) (drop l.number (rows_of l.left.lists))) (rows_of l.right.lists)
      ≡ l.fn.out.items ++ matched l.first l.second l.keys
      (take (l.upto - l.from) (drop l.from (rows_of l.left.lists))) (rows_of l.right.lists);
}
