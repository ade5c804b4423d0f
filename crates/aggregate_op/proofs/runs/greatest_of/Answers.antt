use Rattle.aggregate_op.proofs.GroupRuns.{greatest_step}
use Rattle.aggregate_op.proofs.runs.greatest_of.Goals as goal

pub loop-row-preserved : goal.loop-row-preserved
loop-row-preserved c =
    greatest_step c.args.rows.now c.loop-row.row-index c.row-item.result c.loop-row-test.true c.args.column c.loop-row.found.now c.behind.result.now c.greater-found.result.now c.loop-row.invariant
    (let e = c.behind.ensures in let f = c.items.ensures in let g = c.row-item.is in cc) c.greater-found.ensures
