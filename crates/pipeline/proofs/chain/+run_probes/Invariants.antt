use Rattle.std.proofs.Common.{length}
use Rattle.pipeline.proofs.chain.+run_probes.Given as goal

abbrev pub decreases-run_probes : goal.decreases-run_probes
decreases-run_probes l = length l.probes.now
