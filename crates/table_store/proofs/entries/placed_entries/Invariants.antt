use Rattle.table_store.proofs.Placed.{Placing}
use Rattle.table_store.proofs.entries.placed_entries.Given as goal

abbrev pub invariant-loop-number : goal.invariant-loop-number
invariant-loop-number l = Placing l.column l.rows l.items l.number l.filling l.entries.items
