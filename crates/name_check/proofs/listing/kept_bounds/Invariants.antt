use Rattle.std.proofs.Common.{◌≡◌, map, take}
use Rattle.name_check.proofs.listing.kept_bounds.Given as goal

abbrev pub invariant-loop-column : goal.invariant-loop-column
invariant-loop-column l = l.bounds.items ≡ map (λ c. c.layout.bound) (take l.column-index l.head)
