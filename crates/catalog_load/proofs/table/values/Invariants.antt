use Rattle.std.proofs.Common.{◌≡◌, ◌+◌, drop}
use Rattle.csv.specs.Records.{fields_of}
use Rattle.catalog_load.specs.Tables.{all_or_first, cells}
use Rattle.catalog_load.proofs.Cells.{before}
use Rattle.catalog_load.proofs.table.values.Given as goal

-- the values so far stand before those of the other fields
abbrev pub invariant-loop-place : goal.invariant-loop-place
invariant-loop-place l = before l.values.items (all_or_first (cells l.number (l.place + 1) (drop l.place l.columns) (drop l.place (fields_of l.fields)))) ≡ all_or_first (cells l.number 1 l.columns (fields_of l.fields))
