use Rattle.std.proofs.Common.{◌≡◌, IfSome, take}
use Rattle.std.specs.List.{All}
use Rattle.io_cpu_scheduler.specs.Limits.{IsStep}
use Rattle.io_cpu_scheduler.specs.Steps.{step_at}
use Rattle.io_cpu_scheduler.proofs.steps.last_due.Given as goal

abbrev pub invariant-loop-step : goal.invariant-loop-step
invariant-loop-step l = record {
  last : l.last ≡ step_at (take l.step-index l.fn.steps) l.finishes;
  limits : All IsStep l.fn.steps → IfSome l.last IsStep;
}
