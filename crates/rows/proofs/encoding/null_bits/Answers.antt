use Rattle.rows.proofs.RowBits.{step_nullable, step_other}
use Rattle.rows.proofs.encoding.null_bits.Goals as goal

pub loop-place-preserved-then-columns-place : goal.loop-place-preserved-then-columns-place
loop-place-preserved-then-columns-place c =
    let s = step_nullable c.args.columns.now c.args.row.now c.loop-place.place c.loop-place.bits c.null_bit.result _ c.index-row-place.result c.loop-place-test.true c.loop-place.auto.place c.requires.row
    c.if-columns-place.true c.index-row-place.is c.null_bit.ensures.value c.null_bit.ensures.small c.loop-place.invariant.told c.loop-place.invariant.small in
    record { told = s.0; small = s.1 }

pub loop-place-preserved : goal.loop-place-preserved
loop-place-preserved c =
    let s = step_other c.args.columns.now c.args.row.now c.loop-place.place c.loop-place.bits _ c.loop-place-test.true c.loop-place.auto.place c.requires.row
    c.if-columns-place.false c.loop-place.invariant.told c.loop-place.invariant.small in
    record { told = s.0; small = s.1 }
