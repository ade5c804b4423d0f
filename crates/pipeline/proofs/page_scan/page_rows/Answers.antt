use Rattle.std.proofs.Common.{map, refl, arith}
use Rattle.rel_meaning.specs.Expression.{expression_of}
use Rattle.pipeline.specs.Scans.{scanned}
use Rattle.pipeline.proofs.Passing.{goes_on, breaks}
use Rattle.pipeline.proofs.page_scan.page_rows.Goals as goal

pub returns-then-not-branch-clause-err : goal.returns-then-not-branch-clause-err
returns-then-not-branch-clause-err c = (
  refl,
  refl,
  refl,
  breaks (scanned c.args.var c.args.pipe.now.columns) c.args.pipe.now.columns (map expression_of c.args.pipe.now.tests) c.args.view.now c.loop-slot.slot c.item.result.now c.in_ok-put_row.field-0 c.loop-slot.rows.items
      (omega arith) c.item.ensures c.in_ok-put_row.ensures.there c.if-not-branch.true c.loop-slot.invariant,
)

pub loop-slot-preserved : goal.loop-slot-preserved
loop-slot-preserved c =
    goes_on (scanned c.args.var c.args.pipe.now.columns) c.args.pipe.now.columns (map expression_of c.args.pipe.now.tests) c.args.view.now c.loop-slot.slot c.item.result.now c.in_ok-put_row.field-0 c.loop-slot.rows.items c.put_row.new.rows.items
    (omega arith) c.item.ensures c.in_ok-put_row.ensures.there c.if-not-branch.false c.in_ok-put_row.ensures.rows (c.in_ok-put_row.ensures.fit c.loop-slot.invariant.fit) c.loop-slot.invariant
