use Rattle.pipeline.proofs.RowTested.{test_typed}
use Rattle.pipeline.proofs.row_testing.are_true.Goals as goal

pub evaluate-requires-clause-typed : goal.evaluate-requires-clause-typed
evaluate-requires-clause-typed c = test_typed c.args.layout.now c.args.tests.now c.loop-test.test-index c.test-item.result c.requires.tests c.loop-test-test.true c.test-item.is
