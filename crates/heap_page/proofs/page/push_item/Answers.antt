use Rattle.std.proofs.Common.{◌+◌, ◌*◌, ◌<◌, ◌≤◌, ◌-◌, length, refl, arith, ap}
use Rattle.heap_page.proofs.Pushed.{known, exceeds, not_over, left, still_page}
use Rattle.heap_page.specs.declared.page.Push.TheVariants.{Pushed}
use Rattle.heap_page.proofs.page.push_item.Goals as goal
use Rattle.heap_page.proofs.page.push_item.Goals.{then-upper-end-lt4-via-then-upper-end-lt4, then-upper-end-lt4-via-else-upper-end-lt4+then-upper-end}

pub overflow_sub-upper : goal.overflow_sub-upper
overflow_sub-upper c =
    let k = known c.args.bytes.now c.requires c.read_short-count.result c.read_short-upper.result c.read_short-count.ensures c.read_short-upper.ensures in
    omega (arith, k.count_is, k.upper_is, k.fits)

pub returns-then-upper-end-lt4-clause-pushed : goal.returns-then-upper-end-lt4-clause-pushed
returns-then-upper-end-lt4-clause-pushed c =
    let k = known c.args.bytes.now c.requires c.read_short-count.result c.read_short-upper.result c.read_short-count.ensures c.read_short-upper.ensures in
    let short : c.read_short-upper.result - (20 + 4 * c.read_short-count.result) < 4 + length c.args.item.now =
    elim c.then-upper-end-lt4.branch [ then-upper-end-lt4-via-then-upper-end-lt4 w ↦ omega arith | then-upper-end-lt4-via-else-upper-end-lt4+then-upper-end w ↦ omega arith ] in
    (exceeds c.args.bytes.now c.args.item.now c.read_short-count.result c.read_short-upper.result k short, refl)

pub put-requires-3 : goal.put-requires-3
put-requires-3 c =
    let k = known c.args.bytes.now c.requires c.read_short-count.result c.read_short-upper.result c.read_short-count.ensures c.read_short-upper.ensures in
    omega (arith, k.count_is, k.upper_is, k.fits, k.len, ap length c.to_be_bytes-3.ensures, c.put.auto.bytes, c.put-2.auto.bytes)

pub put-requires-5 : goal.put-requires-5
put-requires-5 c =
    let k = known c.args.bytes.now c.requires c.read_short-count.result c.read_short-upper.result c.read_short-count.ensures c.read_short-upper.ensures in
    omega (arith, k.count_is, k.upper_is, k.fits, k.len, c.put.auto.bytes, c.put-2.auto.bytes, c.put-3.auto.bytes, c.put-4.auto.bytes)

pub returns-clause-pushed : goal.returns-clause-pushed
returns-clause-pushed c =
    let k = known c.args.bytes.now c.requires c.read_short-count.result c.read_short-upper.result c.read_short-count.ensures c.read_short-upper.ensures in
    let long : 4 + length c.args.item.now ≤ c.read_short-upper.result - (20 + 4 * c.read_short-count.result) = omega arith in
    let all = left c.args.bytes.now c.args.item.now c.read_short-count.result c.read_short-upper.result (20 + 4 * c.read_short-count.result) (c.read_short-upper.result - length c.args.item.now) k long refl refl in (
      not_over c.args.bytes.now c.args.item.now c.read_short-count.result c.read_short-upper.result k long,
      rw (c.put-5.ensures, c.put-4.ensures, c.put-3.ensures, c.put-2.ensures, c.put.ensures, c.to_be_bytes.ensures, c.to_be_bytes-2.ensures, c.to_be_bytes-3.ensures, c.to_be_bytes-4.ensures) all,
    )

pub returns-clause-page : goal.returns-clause-page
returns-clause-page c = still_page c.args.bytes.now c.args.item.now _ Pushed c.requires (returns-clause-pushed c)
