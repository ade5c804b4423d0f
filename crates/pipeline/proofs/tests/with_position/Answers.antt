use Rattle.plan_tree.specs.Pieces.{piece_of}
use Rattle.pipeline.proofs.SampleRuns.{collected_more}
use Rattle.pipeline.proofs.tests.with_position.Goals as goal

pub returns-clause-collected : goal.returns-clause-collected
returns-clause-collected c =
    collected_more (piece_of c.args.fragment.now) c.args.parts c.in_ok-made.made c.in_ok-rows.rows c.requires.parts c.in_ok-rows.ensures.shape c.in_ok-rows.ensures.part c.in_ok-made.ensures
