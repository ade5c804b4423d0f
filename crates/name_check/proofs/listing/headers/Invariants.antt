use Rattle.std.proofs.Common.{◌≡◌, map, take}
use Rattle.name_check.specs.Listed.{header_by}
use Rattle.name_check.specs.Steps.{view_of}
use Rattle.name_check.proofs.listing.headers.Given as goal

abbrev pub invariant-loop-one : goal.invariant-loop-one
invariant-loop-one l = l.headers.items ≡ map header_by (map view_of (take l.one-index l.found))
