use Rattle.std.proofs.Common.{None, refl}
use Rattle.table_store.proofs.Laying.{storable, storable_table}
use Rattle.table_store.proofs.database.plain_table.Goals as goal

pub returns-clause-storable : goal.returns-clause-storable
returns-clause-storable c = storable_table c.in_ok-items.items (record { items = c.in_ok-items.items; index = None }) refl (storable c.args.relation.now c.args.table.now c.in_ok-items.items c.requires.table c.in_ok-items.ensures) tt
