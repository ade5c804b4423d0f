use Rattle.std.proofs.Common.{refl}
use Rattle.master.specs.SampleRuns.{IsSample}
use Rattle.master.proofs.tests.run.Goals as goal

pub run_named-requires-clause-sample : goal.run_named-requires-clause-sample
run_named-requires-clause-sample g c = record { untold = refl; ends = c.requires.ends }
