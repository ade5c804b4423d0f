use Rattle.std.proofs.Common.{◌≡◌, ◌+◌, ◌≤◌, drop}
use Rattle.rows.specs.RowBytes.{nullables}
use Rattle.rows.proofs.encoding.bit_bytes.Given as goal

abbrev pub invariant-loop-column : goal.invariant-loop-column
invariant-loop-column l = record { told : l.count + nullables (drop l.column-index l.columns) ≡ nullables l.columns; small : l.count ≤ l.column-index }
