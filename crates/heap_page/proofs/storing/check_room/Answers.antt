use Rattle.std.proofs.Common.{◌≤◌, arith, refl}
use Rattle.heap_page.specs.Maps.{needs_of}
use Rattle.heap_page.proofs.Found.{some_at, get_below, below_is}
use Rattle.heap_page.proofs.storing.check_room.Goals as goal

pub returns-then-needs-capacity-clause-err : goal.returns-then-needs-capacity-clause-err
returns-then-needs-capacity-clause-err g c = (
  record {
    drive = c.index-drives-place.result;
    here = some_at c.args.drives.now c.loop-place.place _ c.loop-place-test.true c.index-drives-place.is;
    needs_is = c.needs-needs.ensures;
    capacity_is = c.capacity-capacity.ensures;
    small = c.if-needs-capacity.true;
    first = c.loop-place.invariant;
  },
  refl,
)

pub loop-place-preserved : goal.loop-place-preserved
loop-place-preserved g c =
    below_is (λ e o. needs_of c.args.map.now e ≤ g.D.Drive.size o) c.args.drives.now c.loop-place.place c.index-drives-place.result
    (some_at c.args.drives.now c.loop-place.place _ c.loop-place-test.true c.index-drives-place.is)
    (let n = c.needs-needs.ensures in let k = c.capacity-capacity.ensures in omega (arith, n, k, c.if-needs-capacity.false)) c.loop-place.invariant

pub returns-clause-ok : goal.returns-clause-ok
returns-clause-ok g c = λ d o at. c.loop-place.invariant d o (omega (arith, get_below c.args.drives.now d o at)) at
