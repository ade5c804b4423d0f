use Rattle.std.proofs.Common.{◌≡◌, drop, take, map, []}
use Rattle.catalog_load.specs.Catalogs.{catalog_checks, first_of, relation_of}
use Rattle.catalog_load.proofs.checks.relations.Given as goal

-- the entries so far have no fault, and the relations are theirs
abbrev pub invariant-loop-place : goal.invariant-loop-place
invariant-loop-place l = record {
  flaw : first_of (catalog_checks (take l.place l.entries) (drop l.place l.entries)) ≡ first_of (catalog_checks [] l.entries);
  same : l.relations.items ≡ map relation_of (take l.place l.entries);
}
