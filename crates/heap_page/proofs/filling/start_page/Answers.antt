use Rattle.std.proofs.Common.{[], arith}
use Rattle.heap_page.specs.declared.page.Push.TheVariants.{Pushed, NoRoom}
use Rattle.heap_page.proofs.Pushed.{pushes_on}
use Rattle.heap_page.proofs.filling.start_page.Goals as goal

pub unreachable-requires : goal.unreachable-requires
unreachable-requires c =
    (pushes_on c.args.file c.args.number [] c.in_ok-page.page c.args.item.now c.push.new.self NoRoom c.ranges.file.fits c.ranges.number.fits (omega arith) c.in_ok-page.ensures.empty c.in-NoRoom.ensures.pushed).0 (omega arith)

pub returns : goal.returns
returns c =
    (pushes_on c.args.file c.args.number [] c.in_ok-page.page c.args.item.now c.push.new.self Pushed c.ranges.file.fits c.ranges.number.fits (omega arith) c.in_ok-page.ensures.empty c.in-Pushed.ensures.pushed).1
