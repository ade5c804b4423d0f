use Rattle.std.proofs.Common.{◌≤◌, length}
use Rattle.std.specs.Prelude.{All}
use Rattle.rows.specs.RowBytes.{IsRowOf, row_bytes}
use Rattle.query_planner.proofs.tests.numbers.Given as goal

abbrev pub invariant-loop-number : goal.invariant-loop-number
invariant-loop-number l = record { rows : All (IsRowOf l.columns) l.rows.items; count : length l.rows.items ≤ l.number; short : All (λ row. length (row_bytes l.columns row) ≤ 8168) l.rows.items }
