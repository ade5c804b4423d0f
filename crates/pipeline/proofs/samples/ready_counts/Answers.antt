use Rattle.pipeline.proofs.SampleRuns.{counts_ready}
use Rattle.pipeline.proofs.samples.ready_counts.Goals as goal

pub returns : goal.returns
returns c = λ n. counts_ready _ n c.in_ok-counts.ensures
