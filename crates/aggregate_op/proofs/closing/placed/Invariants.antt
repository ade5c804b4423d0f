use Rattle.std.proofs.Common.{◌≡◌, map, take}
use Rattle.aggregate_op.specs.FoldMeaning.{shown}
use Rattle.aggregate_op.proofs.closing.placed.Given as goal

abbrev pub invariant-loop-place : goal.invariant-loop-place
invariant-loop-place l = l.row.items ≡ map (shown l.group l.answers) (take l.place-index l.places)
