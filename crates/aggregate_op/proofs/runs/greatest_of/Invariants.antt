use Rattle.std.proofs.Common.{◌≡◌, map, take}
use Rattle.rows.specs.Values.{column_of}
use Rattle.aggregate_op.specs.Partials.{greatest}
use Rattle.aggregate_op.specs.Runs.{column_values, seen}
use Rattle.aggregate_op.proofs.runs.greatest_of.Given as goal

abbrev pub invariant-loop-row : goal.invariant-loop-row
invariant-loop-row l = column_of l.found 0 ≡ greatest (column_values l.column (map seen (take l.row-index l.rows)))
