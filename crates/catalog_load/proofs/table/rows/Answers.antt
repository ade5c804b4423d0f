use Rattle.std.proofs.Common.{arith}
use Rattle.catalog_load.proofs.Cells.{row_found}
use Rattle.catalog_load.proofs.table.rows.Goals as goal

pub loop-rows-preserved : goal.loop-rows-preserved
loop-rows-preserved c =
    let pops = rw c.if-branch.true at c.in_ok-next_record.ensures.pops in
    record {
      found = rw c.in_ok-push.ensures.items (row_found c.loop-rows.number c.args.columns.now _ _ _ c.loop-rows.rows.items _ c.loop-rows.invariant.found pops c.in_ok-row.field-0 c.in_ok-row.ensures.value);
      plain = c.in_ok-next_record.ensures.plain c.if-branch.true;
      few = omega (arith, c.in_ok-row.ensures.within);
    }
