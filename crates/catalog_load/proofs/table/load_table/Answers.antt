use Rattle.catalog_load.proofs.Typed.{rows_typed}
use Rattle.catalog_load.proofs.table.load_table.Goals as goal

pub returns-clause-rows : goal.returns-clause-rows
returns-clause-rows c = rw c.from_vec.ensures (rows_typed c.args.relation.now.columns _ c.in_ok-rows.field-0.items c.in_ok-rows.ensures)
