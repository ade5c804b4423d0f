use Rattle.std.proofs.Common.{◌≡◌, map, drop}
use Rattle.rel_meaning.specs.Expression.{expression_of}
use Rattle.rows.specs.Layouts.{column_in}
use Rattle.plan_tree.specs.Conjuncts.{all_met}
use Rattle.pipeline.proofs.row_testing.are_true.Given as goal

abbrev pub invariant-loop-test : goal.invariant-loop-test
invariant-loop-test l = all_met (map expression_of (drop l.test-index l.tests)) (column_in l.layout l.row) ≡ all_met (map expression_of l.tests) (column_in l.layout l.row)
