use Rattle.std.proofs.Common.{◌≡◌, ◌++◌, drop, Some, List}
use Rattle.rows.specs.declared.value.Value.{Value}
use Rattle.rows.specs.RowFields.{values_in}
use Rattle.rows.proofs.row_view.RowView.to_row.Given as goal

abbrev pub invariant-loop-column : goal.invariant-loop-column
invariant-loop-column l = (tail : List Value) × (values_in (drop l.column-index l.column-items) l.bits l.rest ≡ Some tail) × (l.row.items ++ tail ≡ l.self)
