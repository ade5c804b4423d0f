use Rattle.std.proofs.Common.{◌≡◌, take, map}
use Rattle.catalog_load.specs.Catalogs.{column_of}
use Rattle.catalog_load.proofs.checks.copied.Given as goal

abbrev pub invariant-loop-form : goal.invariant-loop-form
invariant-loop-form l = l.columns.items ≡ map column_of (take l.form-index l.forms)
