use Rattle.std.proofs.Common.{◌≡◌, drop, []}
use Rattle.postquel.specs.Onto.{joined_onto}
use Rattle.postquel.specs.Print.{step_text}
use Rattle.postquel.proofs.printing.push_step_list.Given as goal

abbrev pub invariant-loop-step : goal.invariant-loop-step
invariant-loop-step l = joined_onto step_text l.between l.out.items (drop l.step-index l.steps) ≡ joined_onto step_text [] l.fn.out.items l.steps
