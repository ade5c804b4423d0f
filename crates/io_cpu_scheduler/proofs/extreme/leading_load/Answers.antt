use Rattle.std.proofs.Common.{sym, ◌∙◌}
use Rattle.io_cpu_scheduler.proofs.Leaders.{leader_skip, leader_step, none_leader}
use Rattle.io_cpu_scheduler.proofs.extreme.leading_load.Goals as goal
use Rattle.io_cpu_scheduler.proofs.extreme.leading_load.Goals.{then-eq, else-eq}

pub loop-load-init : goal.loop-load-init
loop-load-init c = record { best = none_leader _ _; fits = tt }

pub loop-load-preserved : goal.loop-load-preserved
loop-load-preserved c = elim c.if-eq.branch [
  | then-eq w ↦ rw w.best-is (record {
    best = leader_step c.args.machine.now c.args.class c.class_of.result c.args.ready.now c.loop-load.load-index c.loop-load.best _ c.loop-load-test.true c.class_of.ensures (sym c.eq.ensures ∙ w.if-eq.true)
        c.loop-load.invariant.best w.better_in_class-best.ensures.value;
    fits = w.better_in_class-best.ensures.fits;
  })
  | else-eq w ↦ rw w.best-is (record {
    best = leader_skip c.args.machine.now c.args.class c.class_of.result c.args.ready.now c.loop-load.load-index c.loop-load.best c.loop-load-test.true c.class_of.ensures (sym c.eq.ensures ∙ w.if-eq.false)
        c.loop-load.invariant.best;
    fits = c.loop-load.invariant.fits;
  })
]
