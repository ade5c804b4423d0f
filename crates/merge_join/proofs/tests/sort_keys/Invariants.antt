use Rattle.std.proofs.Common.{◌≡◌, map, take}
use Rattle.plan_tree.specs.WellFormed.{sort_key}
use Rattle.merge_join.proofs.tests.sort_keys.Given as goal

abbrev pub invariant-loop-column : goal.invariant-loop-column
invariant-loop-column l =
    l.keys.items ≡ map (sort_key l.layout) (take l.column-index l.columns)
