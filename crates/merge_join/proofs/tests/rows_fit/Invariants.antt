use Rattle.std.proofs.Common.{drop}
use Rattle.std.specs.List.{AllByRecursion}
use Rattle.rows.specs.Layouts.{FitsColumns}
use Rattle.hash_join.specs.Table.{rows_of}
use Rattle.merge_join.proofs.tests.rows_fit.Given as goal

abbrev pub invariant-loop-number : goal.invariant-loop-number
invariant-loop-number l =
    AllByRecursion (FitsColumns l.columns) (drop l.number (rows_of l.built.lists))
    → AllByRecursion (FitsColumns l.columns) (rows_of l.built.lists)
