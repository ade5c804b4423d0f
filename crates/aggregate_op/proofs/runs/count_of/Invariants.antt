use Rattle.std.proofs.Common.{◌≡◌, ◌≤◌, length, map, take}
use Rattle.aggregate_op.specs.Runs.{column_values, seen}
use Rattle.aggregate_op.proofs.runs.count_of.Given as goal

abbrev pub invariant-loop-row : goal.invariant-loop-row
invariant-loop-row l = record {
  is : l.count ≡ length (column_values l.column (map seen (take l.row-index l.rows)));
  upto : l.count ≤ l.row-index;
}
