use Rattle.std.proofs.Common.{◌≡◌, ◌+◌, ◌-◌, sym, ap, ◌∙◌, arith}
use Rattle.heap_page.specs.Items.{start_of}
use Rattle.heap_page.proofs.Itemised.{start_first, start_before}
use Rattle.heap_page.proofs.items.start_of.Goals as goal

pub returns-then-number-eq0 : goal.returns-then-number-eq0
returns-then-number-eq0 c = rw c.if-number-eq0.true (sym (start_first 0 c.args.ends.now))

pub returns-else-number-eq0 : goal.returns-else-number-eq0
returns-else-number-eq0 c =
    let e : (c.args.number - 1) + 1 ≡ c.args.number = omega arith in
    sym (start_before 0 c.args.ends.now (c.args.number - 1) (omega arith)) ∙ ap (start_of 0 c.args.ends.now) e
