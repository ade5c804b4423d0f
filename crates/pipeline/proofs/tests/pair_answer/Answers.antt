use Rattle.pipeline.proofs.SampleRuns.{pair_ready}
use Rattle.pipeline.proofs.tests.pair_answer.Goals as goal

pub value_of-requires : goal.value_of-requires
value_of-requires c = record { ready = pair_ready _ _ _ c.in_ok-pair.ensures c.in_ok-tables.ensures }
