use Rattle.std.proofs.Common.{◌≡◌, ◌∙◌, ◌+ℤ◌, get_or, ap, subst}
use Rattle.std.specs.Int.{w64, saturate_signed}
use Rattle.rows.specs.Values.{column_of}
use Rattle.aggregate_op.specs.Joined.{carried}
use Rattle.aggregate_op.specs.Partials.{high_part, integer_in, low_part}
use Rattle.aggregate_op.specs.Runs.{seen}
use Rattle.aggregate_op.specs.Stored.{IsStored}
use Rattle.aggregate_op.proofs.GroupRuns.{stored_step, sum_step}
use Rattle.aggregate_op.proofs.runs.sum_of.Goals as goal

pub loop-row-preserved : goal.loop-row-preserved
loop-row-preserved c =
    let at : c.items.result.now ≡ seen (get_or c.args.rows.now c.loop-row.row-index c.row-item.result) = (let e = c.items.ensures in let g = c.row-item.is in cc) in
    let here : IsStored (column_of (seen (get_or c.args.rows.now c.loop-row.row-index c.row-item.result)) c.args.column) = subst (λ row. IsStored (column_of row c.args.column)) at c.summed-sum.ensures.stored in
    let next = c.summed-sum.ensures.sum
    ∙ ap (λ row. carried (saturate_signed w64 (c.loop-row.sum.0 +ℤ high_part (integer_in (column_of row c.args.column)))) (saturate_signed w64 (c.loop-row.sum.1 +ℤ low_part (integer_in (column_of row c.args.column))))) at in
    record {
      sum = sum_step c.args.rows.now c.loop-row.row-index c.row-item.result c.loop-row-test.true c.args.column c.loop-row.invariant.stored here c.loop-row.sum.0 c.loop-row.sum.1 _ c.loop-row.invariant.sum next;
      stored = stored_step c.args.rows.now c.loop-row.row-index c.row-item.result c.loop-row-test.true c.args.column c.loop-row.invariant.stored here;
    }
