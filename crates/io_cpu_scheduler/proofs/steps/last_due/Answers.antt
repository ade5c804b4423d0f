use Rattle.std.proofs.Common.{◌∙◌}
use Rattle.rows.specs.declared.plain.Step.{Step}
use Rattle.io_cpu_scheduler.proofs.StepsLemmas.{skips_step, takes_step}
use Rattle.io_cpu_scheduler.proofs.steps.last_due.Goals as goal
use Rattle.io_cpu_scheduler.proofs.steps.last_due.Goals.{then-step-finishes, else-step-finishes}

abbrev no_step : Step
no_step = record { after = 0; backends = 0 }

pub loop-step-preserved : goal.loop-step-preserved
loop-step-preserved c = elim c.if-step-finishes.branch [
  | then-step-finishes w ↦ rw w.last-is (record {
    last = takes_step c.args.steps.now c.loop-step.step-index c.args.finishes no_step c.loop-step-test.true w.if-step-finishes.true;
    limits = λ all. all c.loop-step.step-index no_step c.loop-step-test.true;
  })
  | else-step-finishes w ↦ rw w.last-is (record {
    last = c.loop-step.invariant.last ∙ skips_step c.args.steps.now c.loop-step.step-index c.args.finishes no_step c.loop-step-test.true w.if-step-finishes.false;
    limits = c.loop-step.invariant.limits;
  })
]
