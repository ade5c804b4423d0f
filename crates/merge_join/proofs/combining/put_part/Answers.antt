use Rattle.rows.specs.Layouts.{column_in}
use Rattle.plan_tree.specs.Combining.{over}
use Rattle.std.proofs.Common.{arith}
use Rattle.merge_join.proofs.Combined.{values_more}
use Rattle.merge_join.proofs.combining.put_part.Goals as goal

pub loop-col-preserved : goal.loop-col-preserved
loop-col-preserved c =
    values_more (over c.args.first.now c.args.a.now (column_in c.args.second.now c.args.b.now))
    c.args.part.now.var c.loop-col.col c.args.part.now.columns c.loop-col.values.items
    c.push.new.self.items _ c.in_ok-value_over.field-0
    (omega arith) c.in_ok-value_over.ensures c.in_ok-push.ensures.items c.loop-col.invariant
