use Rattle.pipeline.proofs.SampleRuns.{long_ready}
use Rattle.pipeline.proofs.tests.long_answer.Goals as goal

pub value_of-requires : goal.value_of-requires
value_of-requires c = record { ready = long_ready _ _ _ c.in_ok-long.ensures c.in_ok-tables.ensures }
