use Rattle.std.proofs.Common.{◌≡◌, ◌++◌, drop}
use Rattle.rows.specs.Layouts.{column_in}
use Rattle.plan_tree.specs.Combining.{over, values_of}
use Rattle.merge_join.proofs.combining.put_part.Given as goal

abbrev pub invariant-loop-col : goal.invariant-loop-col
invariant-loop-col l =
    l.values.items ++ values_of (over l.first l.a (column_in l.second l.b)) l.part.var l.col
    (drop l.col l.part.columns) ≡ l.fn.values.items
    ++ values_of (over l.first l.a (column_in l.second l.b)) l.part.var 0 l.part.columns
