use Rattle.table_store.proofs.Stored.{Storing}
use Rattle.table_store.proofs.writing.write_tables.Given as goal

abbrev pub invariant-loop-table : goal.invariant-loop-table
invariant-loop-table g l = Storing g.D.Drive l.map l.tables l.fn.drives l.table-index l.file l.drives
