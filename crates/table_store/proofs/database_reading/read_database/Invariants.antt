use Rattle.table_store.proofs.DatabaseRead.{Back}
use Rattle.table_store.proofs.database_reading.read_database.Given as goal

abbrev pub invariant-loop-place : goal.invariant-loop-place
invariant-loop-place g l = Back g.D.Drive l.laid l.catalog l.fn.drives l.place l.tables.items l.drives
