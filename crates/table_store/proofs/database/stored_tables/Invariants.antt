use Rattle.table_store.proofs.Laying.{Encoded}
use Rattle.table_store.proofs.database.stored_tables.Given as goal

abbrev pub invariant-loop-place : goal.invariant-loop-place
invariant-loop-place l = Encoded l.catalog l.db l.place l.tables.items
