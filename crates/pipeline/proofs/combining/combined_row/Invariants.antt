use Rattle.std.proofs.Common.{◌≡◌, map, take}
use Rattle.pipeline.specs.Taking.{taken_value}
use Rattle.pipeline.proofs.combining.combined_row.Given as goal

abbrev pub invariant-loop-from : goal.invariant-loop-from
invariant-loop-from l = l.values.items ≡ map (λ t. taken_value t l.a l.b) (take l.from-index l.taken)
