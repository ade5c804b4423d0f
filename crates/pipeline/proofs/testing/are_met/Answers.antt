use Rattle.pipeline.proofs.Tested.{test_can, met_more, met_not}
use Rattle.pipeline.proofs.testing.are_met.Goals as goal

pub meets_view-requires : goal.meets_view-requires
meets_view-requires c = test_can c.args.var c.args.reader.now c.args.row.now c.args.tests.now c.loop-test.test-index c.test-item.result c.requires.row c.requires.tests c.loop-test-test.true c.test-item.is

pub loop-test-preserved : goal.loop-test-preserved
loop-test-preserved c =
    met_more c.args.var c.args.reader.now c.args.row.now c.args.tests.now c.loop-test.test-index c.test-item.result c.meets_view.result _ c.requires.row c.loop-test-test.true c.test-item.is
    c.meets_view.ensures c.if-not-meets_view.false c.loop-test.invariant

pub returns-then-not-meets_view : goal.returns-then-not-meets_view
returns-then-not-meets_view c =
    met_not c.args.var c.args.reader.now c.args.row.now c.args.tests.now c.loop-test.test-index c.test-item.result c.meets_view.result _ c.requires.row c.loop-test-test.true c.test-item.is
    c.meets_view.ensures c.if-not-meets_view.true c.loop-test.invariant
