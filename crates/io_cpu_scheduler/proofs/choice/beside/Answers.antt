use Rattle.std.proofs.Common.{sym, ap, ◌∙◌}
use Rattle.io_cpu_scheduler.specs.Degrees.{other_class}
use Rattle.io_cpu_scheduler.proofs.Decides.{beside_alone, beside_joined, beside_none}
use Rattle.io_cpu_scheduler.proofs.choice.beside.Goals as goal
use Rattle.io_cpu_scheduler.proofs.choice.beside.Goals.{in_default-via-in-Some+else-machine-ge2, in_default-via-in_default}

pub returns-in-Io : goal.returns-in-Io
returns-in-Io c =
    beside_joined _ _ c.in-Some.load c.other-other.result _ _ (c.other-other.ensures ∙ ap other_class c.class_of.ensures) (sym c.extreme_load.ensures.value ∙ c.in-Some.is) c.if-machine-ge2.true (rw c.in-Io.is c.pair.ensures)

pub returns-in-Cpu : goal.returns-in-Cpu
returns-in-Cpu c =
    beside_joined _ _ c.in-Some.load c.other-other.result _ _ (c.other-other.ensures ∙ ap other_class c.class_of.ensures) (sym c.extreme_load.ensures.value ∙ c.in-Some.is) c.if-machine-ge2.true (rw c.in-Cpu.is c.pair-in-Cpu.ensures)

pub returns-in_default : goal.returns-in_default
returns-in_default c =
    let is = c.other-other.ensures ∙ ap other_class c.class_of.ensures in
    elim c.in_default.branch [
      | in_default-via-in-Some+else-machine-ge2 w ↦ beside_alone _ _ w.in-Some.load c.other-other.result _ _ is (sym c.extreme_load.ensures.value ∙ w.in-Some.is) w.if-machine-ge2.false c.one_alone.ensures
      | in_default-via-in_default w ↦ beside_none _ _ c.other-other.result _ _ is (sym c.extreme_load.ensures.value ∙ w.in_default.is) c.one_alone.ensures
    ]
