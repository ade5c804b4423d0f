use Rattle.table_store.proofs.Laying.{Planned}
use Rattle.table_store.proofs.database.index_list.Given as goal

abbrev pub invariant-loop-table : goal.invariant-loop-table
invariant-loop-table l = Planned l.tables l.table l.indexes.items
