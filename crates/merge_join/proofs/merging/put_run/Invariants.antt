use Rattle.std.proofs.Common.{◌≡◌, ◌++◌, drop}
use Rattle.hash_join.specs.Table.{rows_of}
use Rattle.merge_join.specs.Sides.{of_key, with_each}
use Rattle.merge_join.proofs.merging.put_run.Given as goal

abbrev pub invariant-loop-number : goal.invariant-loop-number
invariant-loop-number l =
    l.out.items ++ with_each l.layout l.first l.second l.a
    (of_key l.first l.second l.keys l.a (drop l.number (rows_of l.right.lists)))
    ≡ l.fn.out.items ++ with_each l.layout l.first l.second l.a
    (of_key l.first l.second l.keys l.a (rows_of l.right.lists))
