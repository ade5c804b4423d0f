use native.Mathlib.Omega.{arith}
use Rattle.std.proofs.Common.{◌≡◌, ◌∙◌, ℕ, ap, sym, codes}
use Rattle.generated_input.specs.Generated.{employees_text}
use Rattle.generated_input.specs.Draws.{next_state}
use Rattle.generated_input.proofs.Steps.{after_two, employee_step}
use Rattle.generated_input.proofs.tables.employee_table.Goals as goal

pub loop-number-preserved : goal.loop-number-preserved
loop-number-preserved c = (
  employee_step c.args.draws.now.state c.args.departments c.loop-number.number c.loop-number.draws.state (codes "eno,name,dno,sal\n") c.loop-number.out.items c.push_employee.new.out.items
      c.loop-number.invariant.0 c.loop-number.invariant.1 c.in_ok-push_employee.ensures.text,
  c.in_ok-push_employee.ensures.state ∙ ap (λ (x : ℕ). next_state (next_state x)) c.loop-number.invariant.1 ∙ sym (after_two c.args.draws.now.state c.loop-number.number),
)

pub returns : goal.returns
returns c =
    let done : c.loop-number.number ≡ c.args.count = omega (arith, c.loop-number-test.false, c.loop-number.auto.number-end) in
    c.from_vec.ensures ∙ c.loop-number.invariant.0 ∙ ap (employees_text c.args.draws.now.state c.args.departments) done
