use Rattle.hash_join.specs.Table.{rows_of}
use Rattle.merge_join.specs.Sides.{AreBelow}
use Rattle.merge_join.proofs.search.first_from.Given as goal

abbrev pub invariant-loop-number : goal.invariant-loop-number
invariant-loop-number l = AreBelow l.first l.second l.keys l.a (rows_of l.right.lists)
    l.number
