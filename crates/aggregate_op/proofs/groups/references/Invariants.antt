use Rattle.std.proofs.Common.{◌≡◌, map, take}
use Rattle.aggregate_op.specs.Runs.{seen}
use Rattle.aggregate_op.proofs.groups.references.Given as goal

abbrev pub invariant-loop-row : goal.invariant-loop-row
invariant-loop-row l = map seen l.references.items ≡ take l.row-index l.rows
