use Rattle.std.proofs.Common.{◌≡◌, map, take}
use Rattle.rel_meaning.specs.Expression.{output_of}
use Rattle.plan_tree.proofs.copying.copy_targets.Given as goal

abbrev pub invariant-loop-target : goal.invariant-loop-target
invariant-loop-target l = map output_of l.copies.items ≡ map output_of (take l.target-index l.target-items)
