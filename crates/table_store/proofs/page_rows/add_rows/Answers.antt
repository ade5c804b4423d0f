use Rattle.table_store.proofs.Encoded.{added_one}
use Rattle.table_store.proofs.page_rows.add_rows.Goals as goal

pub loop-slot-preserved : goal.loop-slot-preserved
loop-slot-preserved c =
    rw c.in_ok-push-in-Some.ensures (added_one c.args.columns.now c.args.view.now c.loop-slot.slot c.item.result.now c.in-Some.row c.args.rows.now c.loop-slot.rows
    c.item.ensures (rw (← c.in-Some.is) c.in_ok-row.ensures) c.loop-slot.invariant)
