use Rattle.std.proofs.Common.{sym, drop, ◌∙◌, arith}
use Rattle.key_index.specs.Aims.{passes, seen_item}
use Rattle.key_index.proofs.Placed.{whole_page, above, below}
use Rattle.key_index.proofs.fixed.search_fixed.Goals as goal

pub loop-low-init : goal.loop-low-init
loop-low-init c = whole_page c.args.level c.args.start c.args.len (passes c.args.aim) (drop 20 c.args.bytes.now)

pub loop-low-preserved-then-is_counted : goal.loop-low-preserved-then-is_counted
loop-low-preserved-then-is_counted c =
    above c.args.level c.args.start c.args.len (passes c.args.aim) (drop 20 c.args.bytes.now) c.loop-low.low c.loop-low.high _ (omega arith) (omega (arith, c.loop-low-test.true)) c.loop-low.invariant (seen_item c.entry_at.result) c.entry_at.ensures
    (sym c.is_counted.ensures ∙ c.if-is_counted.true)

pub loop-low-preserved : goal.loop-low-preserved
loop-low-preserved c =
    below c.args.level c.args.start c.args.len (passes c.args.aim) (drop 20 c.args.bytes.now) c.loop-low.low c.loop-low.high _ (omega arith) (omega (arith, c.loop-low-test.true)) c.loop-low.invariant (seen_item c.entry_at.result) c.entry_at.ensures
    (sym c.is_counted.ensures ∙ c.if-is_counted.false)
