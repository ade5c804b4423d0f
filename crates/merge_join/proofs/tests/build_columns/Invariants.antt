use Rattle.std.proofs.Common.{◌≡◌, take}
use Rattle.merge_join.specs.Sides.{left_columns}
use Rattle.merge_join.proofs.tests.build_columns.Given as goal

abbrev pub invariant-loop-key : goal.invariant-loop-key
invariant-loop-key l = l.columns.items ≡ left_columns (take l.key-index l.keys)
