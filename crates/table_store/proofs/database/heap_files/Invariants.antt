use Rattle.table_store.proofs.Laying.{Numbered}
use Rattle.table_store.proofs.database.heap_files.Given as goal

abbrev pub invariant-loop-table : goal.invariant-loop-table
invariant-loop-table l = Numbered l.tables l.table l.heaps.items
