use Rattle.std.proofs.Common.{◌≡◌, ◌+◌, drop}
use Rattle.csv.specs.Records.{fields_of}
use Rattle.catalog_load.specs.Tables.{first_difference}
use Rattle.catalog_load.proofs.table.difference.Given as goal

-- the names so far are those of the header
abbrev pub invariant-loop-place : goal.invariant-loop-place
invariant-loop-place l = first_difference (l.place + 1) (drop l.place l.columns) (drop l.place (fields_of l.header)) ≡ first_difference 1 l.columns (fields_of l.header)
