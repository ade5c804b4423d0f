use Rattle.std.proofs.Common.{◌≡◌, ◌++◌, map, drop}
use Rattle.std.specs.Option.{option_map}
use Rattle.aggregate_op.specs.Closing.{closed_row}
use Rattle.aggregate_op.specs.FoldMeaning.{all_some}
use Rattle.aggregate_op.proofs.closing.close_rows.Given as goal

abbrev pub invariant-loop-group : goal.invariant-loop-group
invariant-loop-group l = option_map (λ more. l.rows.items ++ more) (all_some (map (closed_row l.fold) (drop l.group-index l.groups))) ≡ all_some (map (closed_row l.fold) l.groups)
