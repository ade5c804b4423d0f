use Rattle.pipeline.proofs.SampleRuns.{build_ready}
use Rattle.pipeline.proofs.samples.ready_build.Goals as goal

pub returns-clause-ready : goal.returns-clause-ready
returns-clause-ready c = λ n. build_ready _ c.args.var n c.in_ok-build_of.ensures
