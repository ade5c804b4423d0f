use Rattle.std.proofs.Common.{◌≡◌, ◌++◌, drop, map}
use Rattle.rel_meaning.specs.Expression.{expression_of}
use Rattle.plan_tree.specs.Rows.{kept}
use Rattle.pipeline.proofs.finishing.passing_rows.Given as goal

abbrev pub invariant-loop-row : goal.invariant-loop-row
invariant-loop-row l = l.kept.items ++ kept l.layout (map expression_of l.tests) (drop l.row-index l.rows) ≡ kept l.layout (map expression_of l.tests) l.rows
