use Rattle.std.proofs.Common.{◌≡◌, ◌≤◌, drop, []}
use Rattle.name_check.specs.MachineSteps.{steps}
use Rattle.name_check.proofs.machine.steps_of.Given as goal

abbrev pub invariant-loop-form : goal.invariant-loop-form
invariant-loop-form l = (l.last ≤ 1000) × (steps l.steps.items l.last (drop l.form-index l.machine) ≡ steps [] 0 l.machine)
