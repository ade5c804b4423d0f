use Rattle.std.proofs.Common.{◌≡◌, drop}
use Rattle.rows.specs.RowFields.{behind}
use Rattle.rows.proofs.row_view.behind_known.Given as goal

abbrev pub invariant-loop-column : goal.invariant-loop-column
invariant-loop-column l = behind (drop l.column-index l.columns) l.bits l.rest ≡ behind l.columns l.fn.bits l.bytes
