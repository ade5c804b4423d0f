use Rattle.std.proofs.Common.{◌≡◌, ◌<◌, [], ◌∷◌, length, map, take}
use Rattle.rows.specs.declared.value.Value.TheVariants.{Number}
use Rattle.aggregate_op.specs.declared.fold.FoldOp.TheVariants.{Sum}
use Rattle.aggregate_op.specs.Partials.{most_rows}
use Rattle.aggregate_op.specs.Runs.{IsStoredColumn, column_values, seen, sum_part}
use Rattle.aggregate_op.proofs.runs.sum_of.Given as goal

abbrev pub invariant-loop-row : goal.invariant-loop-row
invariant-loop-row l = record {
  sum : length (map seen (take l.row-index l.rows)) < most_rows → Number l.sum.0 ∷ Number l.sum.1 ∷ [] ≡ sum_part (column_values l.column (map seen (take l.row-index l.rows)));
  stored : IsStoredColumn Sum l.column (map seen (take l.row-index l.rows));
}
