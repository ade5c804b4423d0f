use Rattle.std.proofs.Common.{◌≡◌, ◌<◌, length, slice_index_or, [], false, arith}
use Rattle.std.specs.Ordering.{is_lt}
use Rattle.hash_join.specs.Table.{rows_of}
use Rattle.merge_join.specs.Sides.{key_order}
use Rattle.merge_join.proofs.Ordered.{rest_from}
use Rattle.merge_join.proofs.search.first_from.Goals as goal

pub returns-then-not-is_lt-clause-start : goal.returns-then-not-is_lt-clause-start
returns-then-not-is_lt-clause-start c =
    let order = key_order c.args.first.now c.args.second.now c.args.keys.now
    c.args.a.now in
    let rows = rows_of c.args.right.now.lists in
    let within : c.loop-number.number < length rows =
    (let e = c.rows-count.ensures in let t = c.loop-number-test.true in omega (arith, e, t)) in
    let h : is_lt (order (slice_index_or rows c.loop-number.number []))
    ≡ false = (let e = c.order_at.ensures in let f = c.is_lt.ensures in let g =
    c.if-not-is_lt.true in cc) in (
      c.loop-number.invariant,
      rest_from order rows c.requires.rises c.loop-number.number []
          within h,
    )
