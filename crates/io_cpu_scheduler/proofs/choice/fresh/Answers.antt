use Rattle.std.proofs.Common.{sym, ◌∙◌, Some, None}
use Rattle.io_cpu_scheduler.proofs.Decides.{fresh_alone, fresh_paired}
use Rattle.io_cpu_scheduler.proofs.choice.fresh.Goals as goal
use Rattle.io_cpu_scheduler.proofs.choice.fresh.Goals.{in_default-via-in-Some-Some+else-machine-ge2, in_default-via-in-Some+in_default, in_default-via-in_default}

pub returns-in-Some-Some : goal.returns-in-Some-Some
returns-in-Some-Some c =
    fresh_paired _ c.in-Some-Some.io c.in-Some-Some.cpu _ _ (sym c.extreme_load-io.ensures.value ∙ c.in-Some-Some.is-0) (sym c.extreme_load-cpu.ensures.value ∙ c.in-Some-Some.is-1) c.if-machine-ge2.true c.pair.ensures

pub returns-in_default : goal.returns-in_default
returns-in_default c = elim c.in_default.branch [
  | in_default-via-in-Some-Some+else-machine-ge2 w ↦ fresh_alone _ (Some w.in-Some-Some.io) (Some w.in-Some-Some.cpu) _ _ (sym c.extreme_load-io.ensures.value ∙ w.in-Some-Some.is-0) (sym c.extreme_load-cpu.ensures.value ∙ w.in-Some-Some.is-1) w.if-machine-ge2.false c.first_alone.ensures
  | in_default-via-in-Some+in_default w ↦ fresh_alone _ (Some w.in_default.field-0-0) None _ _ (sym c.extreme_load-io.ensures.value ∙ w.in_default.is-0) (sym c.extreme_load-cpu.ensures.value ∙ w.in_default.is-1) tt c.first_alone.ensures
  | in_default-via-in_default w ↦ fresh_alone _ None c.extreme_load-cpu.result _ _ (sym c.extreme_load-io.ensures.value ∙ w.in_default.is-0) (sym c.extreme_load-cpu.ensures.value) tt c.first_alone.ensures
]
