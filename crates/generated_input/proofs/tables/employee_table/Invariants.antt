use Rattle.std.proofs.Common.{◌≡◌, ◌*◌}
use Rattle.generated_input.specs.Draws.{state_after}
use Rattle.generated_input.specs.Generated.{employees_text}
use Rattle.generated_input.proofs.tables.employee_table.Given as goal

abbrev pub invariant-loop-number : goal.invariant-loop-number
invariant-loop-number l =
    (l.out.items ≡ employees_text l.initial.draws.state l.departments l.number)
    × (l.draws.state ≡ state_after l.initial.draws.state (2 * l.number))
