use Rattle.std.proofs.Common.{true, take}
use Rattle.table_store.specs.Steps.{Added}
use Rattle.table_store.proofs.page_rows.add_rows.Given as goal

abbrev pub invariant-loop-slot : goal.invariant-loop-slot
invariant-loop-slot l = Added l.columns (take l.slot l.view) l.initial.rows l.rows true
