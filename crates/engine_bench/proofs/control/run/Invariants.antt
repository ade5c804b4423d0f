use Rattle.std.proofs.Common.{[], None}
use Rattle.engine_bench.proofs.control.run.Given as goal

abbrev pub ghosts-run_named : goal.ghosts-run_named
ghosts-run_named g a = record { meaning = record { fragments = a.fragments.now; machine = a.machine; steps = []; image = None } }
