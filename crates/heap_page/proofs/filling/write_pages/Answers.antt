use Rattle.std.proofs.Common.{◌+◌, drop, arith}
use Rattle.std.proofs.lemmas.Result.{err_from_is_err_and, on_ok_weaker}
use Rattle.heap_page.specs.Stores.{StoreCause, store_fault}
use Rattle.heap_page.specs.Maps.{IsPlace}
use Rattle.heap_page.proofs.Counted.{fit_here}
use Rattle.heap_page.specs.Blocks.{item_weight, blocks_of}
use Rattle.heap_page.proofs.Fillings.{number_below, in_file, number_small, is_page, pushed_in, turned, wrote_some, ended, next_below, at_item, at_end}
use Rattle.heap_page.proofs.Drives.{cause_later, if_err_map, quiet_trans}
use Rattle.heap_page.proofs.filling.write_pages.Goals as goal
use Rattle.heap_page.proofs.filling.write_pages.Goals.{in-Pushed, in-NoRoom+in_ok-turn_page-in-NoRoom}

pub push-requires : goal.push-requires
push-requires g c = is_page g.D.Drive c.args.map.now c.args.file (blocks_of item_weight 8172 c.args.items.now) c.args.drives.now c.ranges.file.fits c.requires.map c.requires.pages c.loop-place.number c.loop-place.page _ c.loop-place.drives c.loop-place.invariant

pub turn_page-requires-clause-page : goal.turn_page-requires-clause-page
turn_page-requires-clause-page g c = in_file g.D.Drive c.args.map.now c.args.file (blocks_of item_weight 8172 c.args.items.now) c.args.drives.now c.ranges.file.fits c.requires.map c.requires.pages c.loop-place.number (number_below g.D.Drive c.args.map.now c.args.file (blocks_of item_weight 8172 c.args.items.now) c.args.drives.now c.ranges.file.fits c.requires.map c.requires.pages c.loop-place.number c.loop-place.page _ c.loop-place.drives c.loop-place.invariant)

pub turn_page-requires-clause-next : goal.turn_page-requires-clause-next
turn_page-requires-clause-next g c =
    let s = at_item g.D.Drive c.args.map.now c.args.file (blocks_of item_weight 8172 c.args.items.now) c.args.drives.now c.ranges.file.fits c.requires.map c.requires.pages c.args.items.now c.loop-place.place c.get-item.result.now c.loop-place.number c.loop-place.page c.loop-place.drives c.get-item.ensures c.loop-place.invariant in
    number_small g.D.Drive c.args.map.now c.args.file (blocks_of item_weight 8172 c.args.items.now) c.args.drives.now c.ranges.file.fits c.requires.map c.requires.pages (c.loop-place.number + 1) (next_below g.D.Drive c.args.map.now c.args.file (blocks_of item_weight 8172 c.args.items.now) c.args.drives.now c.ranges.file.fits c.requires.map c.requires.pages c.loop-place.number c.loop-place.page c.get-item.result.now c.push.new.self (drop (c.loop-place.place + 1) c.args.items.now) c.loop-place.drives s c.in-NoRoom.ensures.pushed)

pub turn_page-requires-clause-item : goal.turn_page-requires-clause-item
turn_page-requires-clause-item g c =
    fit_here c.args.items.now c.loop-place.place c.get-item.result.now c.get-item.ensures c.requires.items

pub returns-in_err-turn_page-in-NoRoom-clause-written : goal.returns-in_err-turn_page-in-NoRoom-clause-written
returns-in_err-turn_page-in-NoRoom-clause-written g c =
    wrote_some g.D.Drive c.args.map.now c.args.file (blocks_of item_weight 8172 c.args.items.now) c.args.drives.now c.ranges.file.fits c.requires.map c.requires.pages c.loop-place.number c.loop-place.page _ c.loop-place.drives c.turn_page.new.drives c.loop-place.invariant c.turn_page.ensures.written

pub returns-in_err-turn_page-in-NoRoom-clause-err : goal.returns-in_err-turn_page-in-NoRoom-clause-err
returns-in_err-turn_page-in-NoRoom-clause-err g c =
    let p = err_from_is_err_and c.from_residual-in_err-turn_page-in-NoRoom.result c.from_residual-in_err-turn_page-in-NoRoom.ensures.1 in
    rw (p.1, p.2) (cause_later g.D.Drive c.args.map.now (IsPlace c.args.map.now c.args.file) c.args.drives.now c.loop-place.drives c.turn_page.new.drives _ c.loop-place.invariant.wrote c.in_err-turn_page-in-NoRoom.ensures.err c.requires.room)

pub overflow_add-number : goal.overflow_add-number
overflow_add-number g c =
    let s = at_item g.D.Drive c.args.map.now c.args.file (blocks_of item_weight 8172 c.args.items.now) c.args.drives.now c.ranges.file.fits c.requires.map c.requires.pages c.args.items.now c.loop-place.place c.get-item.result.now c.loop-place.number c.loop-place.page c.loop-place.drives c.get-item.ensures c.loop-place.invariant in
    let n = number_small g.D.Drive c.args.map.now c.args.file (blocks_of item_weight 8172 c.args.items.now) c.args.drives.now c.ranges.file.fits c.requires.map c.requires.pages (c.loop-place.number + 1) (next_below g.D.Drive c.args.map.now c.args.file (blocks_of item_weight 8172 c.args.items.now) c.args.drives.now c.ranges.file.fits c.requires.map c.requires.pages c.loop-place.number c.loop-place.page c.get-item.result.now c.push.new.self (drop (c.loop-place.place + 1) c.args.items.now) c.loop-place.drives s c.in-NoRoom.ensures.pushed) in
    omega (arith, n)

pub loop-place-preserved : goal.loop-place-preserved
loop-place-preserved g c =
    let s = at_item g.D.Drive c.args.map.now c.args.file (blocks_of item_weight 8172 c.args.items.now) c.args.drives.now c.ranges.file.fits c.requires.map c.requires.pages c.args.items.now c.loop-place.place c.get-item.result.now c.loop-place.number c.loop-place.page c.loop-place.drives c.get-item.ensures c.loop-place.invariant in
    elim c.match-push.branch [
      | in-Pushed w ↦ rw (w.drives-is, w.number-is, w.page-is) (pushed_in g.D.Drive c.args.map.now c.args.file (blocks_of item_weight 8172 c.args.items.now) c.args.drives.now c.ranges.file.fits c.requires.map c.requires.pages c.loop-place.number c.loop-place.page c.get-item.result.now c.push.new.self (drop (c.loop-place.place + 1) c.args.items.now) c.loop-place.drives s w.in-Pushed.ensures.pushed)
      | in-NoRoom+in_ok-turn_page-in-NoRoom w ↦
          rw (w.drives-is, w.number-is, w.page-is) (turned g.D.Drive c.args.map.now c.args.file (blocks_of item_weight 8172 c.args.items.now) c.args.drives.now c.ranges.file.fits c.requires.map c.requires.pages c.loop-place.number c.loop-place.page c.get-item.result.now c.push.new.self w.turn_page.new.page (drop (c.loop-place.place + 1) c.args.items.now) c.loop-place.drives w.turn_page.new.drives s w.in-NoRoom.ensures.pushed
          (fit_here c.args.items.now c.loop-place.place c.get-item.result.now c.get-item.ensures c.requires.items)
          w.turn_page.ensures.written w.in_ok-turn_page-in-NoRoom.ensures.ok w.in_ok-turn_page-in-NoRoom.ensures.quiet w.in_ok-turn_page-in-NoRoom.ensures.page)
    ]

pub store_page-requires-clause-page : goal.store_page-requires-clause-page
store_page-requires-clause-page g c = in_file g.D.Drive c.args.map.now c.args.file (blocks_of item_weight 8172 c.args.items.now) c.args.drives.now c.ranges.file.fits c.requires.map c.requires.pages c.loop-place.number (number_below g.D.Drive c.args.map.now c.args.file (blocks_of item_weight 8172 c.args.items.now) c.args.drives.now c.ranges.file.fits c.requires.map c.requires.pages c.loop-place.number c.loop-place.page _ c.loop-place.drives c.loop-place.invariant)

pub returns-clause-written : goal.returns-clause-written
returns-clause-written g c = wrote_some g.D.Drive c.args.map.now c.args.file (blocks_of item_weight 8172 c.args.items.now) c.args.drives.now c.ranges.file.fits c.requires.map c.requires.pages c.loop-place.number c.loop-place.page _ c.loop-place.drives c.store_page.new.drives c.loop-place.invariant c.store_page.ensures.written

pub returns-clause-ok : goal.returns-clause-ok
returns-clause-ok g c =
    let s = at_end g.D.Drive c.args.map.now c.args.file (blocks_of item_weight 8172 c.args.items.now) c.args.drives.now c.ranges.file.fits c.requires.map c.requires.pages c.args.items.now c.loop-place.place c.loop-place.number c.loop-place.page c.loop-place.drives (omega arith) c.loop-place.invariant in
    on_ok_weaker c.store_page.result (λ ok. ended g.D.Drive c.args.map.now c.args.file (blocks_of item_weight 8172 c.args.items.now) c.args.drives.now c.ranges.file.fits c.requires.map c.requires.pages c.loop-place.number c.loop-place.page c.loop-place.drives c.store_page.new.drives s c.store_page.ensures.written ok) c.store_page.ensures.ok

pub returns-clause-err : goal.returns-clause-err
returns-clause-err g c =
    if_err_map c.store_page.result (StoreCause g.D.Drive c.args.map.now c.loop-place.drives c.store_page.new.drives) (StoreCause g.D.Drive c.args.map.now c.args.drives.now c.store_page.new.drives)
    (λ e h. cause_later g.D.Drive c.args.map.now (IsPlace c.args.map.now c.args.file) c.args.drives.now c.loop-place.drives c.store_page.new.drives e c.loop-place.invariant.wrote h c.requires.room) c.store_page.ensures.err

pub returns-in_err-turn_page-in-NoRoom-clause-quiet : goal.returns-in_err-turn_page-in-NoRoom-clause-quiet
returns-in_err-turn_page-in-NoRoom-clause-quiet g c =
    let p = err_from_is_err_and c.from_residual-in_err-turn_page-in-NoRoom.result c.from_residual-in_err-turn_page-in-NoRoom.ensures.1 in
    rw (p.1, p.2)
    (quiet_trans g.D.Drive _ c.args.drives.now c.loop-place.drives c.turn_page.new.drives c.loop-place.invariant.wrote.len c.loop-place.invariant.quiet c.in_err-turn_page-in-NoRoom.ensures.quiet)

pub returns-clause-quiet : goal.returns-clause-quiet
returns-clause-quiet g c =
    quiet_trans g.D.Drive (store_fault c.store_page.result) c.args.drives.now c.loop-place.drives c.store_page.new.drives c.loop-place.invariant.wrote.len c.loop-place.invariant.quiet c.store_page.ensures.quiet
