use Rattle.std.proofs.Common.{refl}
use Rattle.io_cpu_scheduler.proofs.Leaders.{lowest_step}
use Rattle.io_cpu_scheduler.proofs.extreme.first_load.Goals as goal

pub loop-load-init : goal.loop-load-init
loop-load-init c = record { best = refl; fits = tt }

pub loop-load-preserved : goal.loop-load-preserved
loop-load-preserved c = record {
  best = lowest_step c.args.ready.now c.loop-load.load-index _ _ c.loop-load-test.true c.loop-load.invariant.best c.lower-best.ensures.value;
  fits = c.lower-best.ensures.fits;
}
