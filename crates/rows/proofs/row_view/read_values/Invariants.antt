use Rattle.std.proofs.Common.{◌≡◌, ◌++◌, drop, option_map}
use Rattle.rows.specs.RowFields.{values_in}
use Rattle.rows.proofs.row_view.read_values.Given as goal

abbrev pub invariant-loop-column : goal.invariant-loop-column
invariant-loop-column l = option_map (λ tail. l.row.items ++ tail) (values_in (drop l.column-index l.columns) l.bits l.rest) ≡ values_in l.columns l.fn.bits l.bytes
