use Rattle.std.proofs.Common.{Some, refl}
use Rattle.table_store.proofs.Laying.{storable, storable_table, type_there}
use Rattle.table_store.proofs.database.indexed_table.Goals as goal

pub entries_of-requires-clause-storable : goal.entries_of-requires-clause-storable
entries_of-requires-clause-storable c = storable c.args.relation.now c.args.table.now c.in_ok-items.items c.requires.table c.in_ok-items.ensures

pub returns-clause-stored : goal.returns-clause-stored
returns-clause-stored c = record {
  items = c.in_ok-items.ensures;
  index = rw c.requires.column (type_there c.args.table.now.columns c.args.column c.get.result.now c.get.ensures, c.in_ok-entries.ensures.entries);
}

pub returns-clause-storable : goal.returns-clause-storable
returns-clause-storable c =
    let same = type_there c.args.table.now.columns c.args.column c.get.result.now c.get.ensures in
    storable_table c.in_ok-items.items (record { items = c.in_ok-items.items; index = Some (record { key_type = c.get.result.now.col_type; entries = c.in_ok-entries.entries }) }) refl
    (storable c.args.relation.now c.args.table.now c.in_ok-items.items c.requires.table c.in_ok-items.ensures) (rw same c.in_ok-entries.ensures.are)
