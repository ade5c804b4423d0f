use Rattle.std.proofs.Common.{length, arith, ◌-◌}
use Rattle.rows.proofs.RowBits.{low_room, low_step}
use Rattle.rows.proofs.row_view.low_number.Goals as goal

pub overflow_mul-number : goal.overflow_mul-number
overflow_mul-number c = omega (arith, low_room (length c.args.bytes.now) c.loop-place.place c.loop-place.number c.loop-place-test.true c.loop-place.auto.place c.requires c.loop-place.invariant.small)

pub overflow_add-number : goal.overflow_add-number
overflow_add-number c =
    omega (arith, low_room (length c.args.bytes.now) c.loop-place.place c.loop-place.number c.loop-place-test.true c.loop-place.auto.place c.requires c.loop-place.invariant.small, c.type_inv.bytes (c.loop-place.place - 1), c.from.ensures)

pub loop-place-preserved : goal.loop-place-preserved
loop-place-preserved c =
    let s = low_step c.args.bytes.now c.loop-place.place c.loop-place.number c.from.result c.loop-place-test.true c.loop-place.auto.place c.from.ensures (omega (arith, c.type_inv.bytes (c.loop-place.place - 1), c.from.ensures)) c.loop-place.invariant.told c.loop-place.invariant.small in
    record { told = s.0; small = s.1 }
