use Rattle.std.proofs.Common.{◌≡◌, ◌≤◌, length}
use Rattle.catalog_load.specs.Records.{IsPlain, left_in}
use Rattle.catalog_load.specs.Tables.{all_or_first, rows_from}
use Rattle.catalog_load.proofs.Cells.{before}
use Rattle.catalog_load.proofs.table.rows.Given as goal

-- the rows so far stand before those of the records that are left
abbrev pub invariant-loop-rows : goal.invariant-loop-rows
invariant-loop-rows l = record {
  found : before l.rows.items (all_or_first (rows_from l.number l.columns (left_in l.reader))) ≡ all_or_first (rows_from 2 l.columns (left_in l.fn.reader));
  plain : IsPlain l.reader;
  few : l.number ≤ 1000002;
}

abbrev pub decreases-loop-rows : goal.decreases-loop-rows
decreases-loop-rows l = length (left_in l.reader)
