use Rattle.std.proofs.Common.{arith}
use Rattle.rows.proofs.Fronts.{front_more}
use Rattle.rows.proofs.RowBits.{put_step}
use Rattle.rows.proofs.encoding.put_bits.Goals as goal

pub loop-place-preserved : goal.loop-place-preserved
loop-place-preserved c = record {
  told = put_step _ _ _ c.args.count c.loop-place._place c.loop-place.rest _ c.loop-place-test.true c.in_ok-push.ensures.items (omega arith) c.loop-place.invariant.told;
  front = front_more _ _ _ _ c.loop-place.invariant.front c.in_ok-push.ensures.items;
}
