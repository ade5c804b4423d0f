use Rattle.std.proofs.Common.{◌≡◌, ◌≤◌, drop, take, []}
use Rattle.catalog_load.specs.Catalogs.{column_checks, first_of}
use Rattle.catalog_load.proofs.checks.columns_flaw.Given as goal

-- the columns so far have no fault
abbrev pub invariant-loop-place : goal.invariant-loop-place
invariant-loop-place l = record {
  flaw : first_of (column_checks (take l.place l.columns) (drop l.place l.columns)) ≡ first_of (column_checks [] l.columns);
  few : l.place ≤ 32;
}
