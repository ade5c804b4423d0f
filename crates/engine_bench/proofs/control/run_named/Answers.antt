use Rattle.engine_bench.proofs.Scans.{scans_formed}
use Rattle.engine_bench.proofs.control.run_named.Goals as goal

pub new-requires-clause-formed : goal.new-requires-clause-formed
new-requires-clause-formed g c = scans_formed c.args.fragments.now c.requires.scans c.requires.few
