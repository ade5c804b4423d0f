use Rattle.std.proofs.Common.{refl}
use Rattle.engine_bench.proofs.Scans.{scans_end}
use Rattle.engine_bench.proofs.control.run.Goals as goal

pub run_named-requires-clause-sample : goal.run_named-requires-clause-sample
run_named-requires-clause-sample g c = record { untold = refl; ends = scans_end c.args.fragments.now c.requires.scans }
