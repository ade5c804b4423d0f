use Rattle.std.proofs.Common.{◌≡◌, ◌++◌, drop}
use Rattle.rows.specs.Layouts.{column_in}
use Rattle.plan_tree.specs.Combining.{over, row_in}
use Rattle.merge_join.proofs.combining.combined_row.Given as goal

abbrev pub invariant-loop-part : goal.invariant-loop-part
invariant-loop-part l = l.values.items ++ row_in (drop l.part-index l.layout)
    (over l.first l.a (column_in l.second l.b))
    ≡ row_in l.layout (over l.first l.a (column_in l.second l.b))
