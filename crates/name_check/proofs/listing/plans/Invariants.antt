use Rattle.std.proofs.Common.{◌≡◌, map}
use Rattle.name_check.specs.Listed.{plan_by}
use Rattle.name_check.specs.Steps.{view_of}
use Rattle.name_check.proofs.listing.plans.Given as goal

abbrev pub invariant-loop-one : goal.invariant-loop-one
invariant-loop-one l = l.plans.items ≡ map plan_by (map view_of l.yielded)
