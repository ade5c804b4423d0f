use Rattle.std.proofs.Common.{arith}
use Rattle.heap_page.specs.Blocks.{item_weight, blocks_of}
use Rattle.heap_page.proofs.Counted.{started, goes_on, turns, pages_small, at_item, at_end, fit_here, length-cut}
use Rattle.heap_page.proofs.blocks.count_pages.Goals as goal
use Rattle.heap_page.proofs.blocks.count_pages.Goals.{then-used-more, else-used-more}

pub taken-used-requires : goal.taken-used-requires
taken-used-requires c = fit_here c.args.items.now 0 c.get.result.now c.get.ensures c.requires.items

pub loop-number-init : goal.loop-number-init
loop-number-init c = started c.args.items.now c.get.result.now c.taken-used.result c.get.ensures c.taken-used.ensures (fit_here c.args.items.now 0 c.get.result.now c.get.ensures c.requires.items)

pub taken-more-requires : goal.taken-more-requires
taken-more-requires c = fit_here c.args.items.now c.loop-number.number c.get-in-loop-number.result.now c.get-in-loop-number.ensures c.requires.items

pub overflow_add-pages : goal.overflow_add-pages
overflow_add-pages c =
    let few = pages_small (blocks_of item_weight 8172 c.args.items.now) c.loop-number.pages c.loop-number.used _ c.loop-number.invariant in
    omega (arith, few, length-cut c.args.items.now, c.requires.number)

pub loop-number-preserved : goal.loop-number-preserved
loop-number-preserved c =
    let blocks = blocks_of item_weight 8172 c.args.items.now in
    let here = at_item blocks c.loop-number.pages c.loop-number.used c.args.items.now c.loop-number.number c.get-in-loop-number.result.now c.get-in-loop-number.ensures c.loop-number.invariant in
    elim c.if-used-more.branch [
      | then-used-more w ↦ rw (w.pages-is, w.used-is) (goes_on blocks c.loop-number.pages c.loop-number.used c.taken-more.result c.get-in-loop-number.result.now _ here c.taken-more.ensures w.if-used-more.true)
      | else-used-more w ↦ rw (w.pages-is, w.used-is) (turns blocks c.loop-number.pages c.loop-number.used c.taken-more.result c.get-in-loop-number.result.now _ here c.taken-more.ensures
          (fit_here c.args.items.now c.loop-number.number c.get-in-loop-number.result.now c.get-in-loop-number.ensures c.requires.items) w.if-used-more.false)
    ]

pub returns : goal.returns
returns c = at_end (blocks_of item_weight 8172 c.args.items.now) c.loop-number.pages c.loop-number.used c.args.items.now c.loop-number.number (omega arith) c.loop-number.invariant
