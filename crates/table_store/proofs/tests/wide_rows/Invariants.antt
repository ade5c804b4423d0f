use Rattle.std.proofs.Common.{All}
use Rattle.rows.specs.RowBytes.{IsRowOf}
use Rattle.table_store.proofs.tests.wide_rows.Given as goal

abbrev pub invariant-loop-key : goal.invariant-loop-key
invariant-loop-key l = All (IsRowOf l.columns) l.rows.items
