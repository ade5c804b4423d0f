use Rattle.std.proofs.Common.{◌≡◌, map, take}
use Rattle.name_check.specs.Headers.{kept_column}
use Rattle.name_check.proofs.listing.kept_columns.Given as goal

abbrev pub invariant-loop-column : goal.invariant-loop-column
invariant-loop-column l = l.columns.items ≡ map kept_column (take l.column-index l.head)
