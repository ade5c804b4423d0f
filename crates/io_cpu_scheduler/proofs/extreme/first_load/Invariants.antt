use Rattle.std.proofs.Common.{◌≡◌, IfSome, take}
use Rattle.io_cpu_scheduler.specs.Limits.{IsLoad}
use Rattle.io_cpu_scheduler.specs.Loads.{first_best, is_lower}
use Rattle.io_cpu_scheduler.proofs.extreme.first_load.Given as goal

abbrev pub invariant-loop-load : goal.invariant-loop-load
invariant-loop-load l = record {
  best : l.best ≡ first_best is_lower (take l.load-index l.fn.ready);
  fits : IfSome l.best IsLoad;
}
