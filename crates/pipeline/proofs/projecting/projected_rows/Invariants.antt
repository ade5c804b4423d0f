use Rattle.std.proofs.Common.{◌≡◌, map, take}
use Rattle.rel_meaning.specs.Expression.{output_of}
use Rattle.plan_tree.specs.Fragments.{targets_of}
use Rattle.pipeline.proofs.projecting.projected_rows.Given as goal

abbrev pub invariant-loop-row : goal.invariant-loop-row
invariant-loop-row l = l.out.items ≡ targets_of (map output_of l.targets) l.layout (take l.row-index l.rows)
