use Rattle.std.proofs.Common.{◌≡◌, ◌<◌, ◌+◌, ◌-◌, ◌/◌, slice_index_or, [], true, false, arith}
use Rattle.std.specs.Ordering.{is_lt}
use Rattle.hash_join.specs.Table.{rows_of}
use Rattle.merge_join.specs.Sides.{key_order}
use Rattle.merge_join.proofs.Ordered.{below_upto, rest_from}
use Rattle.merge_join.proofs.search.first_of.Goals as goal

pub loop-low-preserved-then-is_lt : goal.loop-low-preserved-then-is_lt
loop-low-preserved-then-is_lt c =
    let order = key_order c.args.first.now c.args.second.now c.args.keys.now
    c.args.a.now in
    let rows = rows_of c.args.right.now.lists in
    let middle = c.loop-low.low + (c.loop-low.high - c.loop-low.low) / 2 in
    let t : c.loop-low.low < c.loop-low.high = c.loop-low-test.true in
    let h : is_lt (order (slice_index_or rows middle []))
    ≡ true = (let e = c.order_at.ensures in let f = c.is_lt.ensures in let g = c.if-is_lt.true
    in cc) in
    record {
      ordered = omega (arith, t);
      within = c.loop-low.invariant.within;
      below = below_upto order rows c.requires.rises middle []
          (omega (arith, t, c.loop-low.invariant.within)) h;
      rest = c.loop-low.invariant.rest;
    }

pub loop-low-preserved : goal.loop-low-preserved
loop-low-preserved c =
    let order = key_order c.args.first.now c.args.second.now c.args.keys.now
    c.args.a.now in
    let rows = rows_of c.args.right.now.lists in
    let middle = c.loop-low.low + (c.loop-low.high - c.loop-low.low) / 2 in
    let t : c.loop-low.low < c.loop-low.high = c.loop-low-test.true in
    let h : is_lt (order (slice_index_or rows middle []))
    ≡ false = (let e = c.order_at.ensures in let f = c.is_lt.ensures in let g = c.if-is_lt.false
    in cc) in
    record {
      ordered = omega (arith, t);
      within = omega (arith, t, c.loop-low.invariant.within);
      below = c.loop-low.invariant.below;
      rest = rest_from order rows c.requires.rises middle []
          (omega (arith, t, c.loop-low.invariant.within)) h;
    }
