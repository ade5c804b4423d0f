use Rattle.std.proofs.Common.{◌≡◌, IfSome, take}
use Rattle.io_cpu_scheduler.specs.Limits.{IsLoad}
use Rattle.io_cpu_scheduler.specs.Loads.{leader}
use Rattle.io_cpu_scheduler.proofs.extreme.leading_load.Given as goal

abbrev pub invariant-loop-load : goal.invariant-loop-load
invariant-loop-load l = record {
  best : l.best ≡ leader l.fn.machine l.class (take l.load-index l.fn.ready);
  fits : IfSome l.best IsLoad;
}
