use Rattle.std.proofs.Common.{◌∙◌, ap, sym, codes}
use Rattle.generated_input.specs.Draws.{next_state}
use Rattle.generated_input.proofs.Steps.{after_one, department_step}
use Rattle.generated_input.proofs.tables.department_table.Goals as goal

pub loop-number-preserved : goal.loop-number-preserved
loop-number-preserved c = (
  department_step c.args.draws.now.state c.loop-number.number c.loop-number.draws.state (codes "dno,dname,floor\n") c.loop-number.out.items c.push_department.new.out.items
      c.loop-number.invariant.0 c.loop-number.invariant.1 c.in_ok-push_department.ensures.text,
  c.in_ok-push_department.ensures.state ∙ ap next_state c.loop-number.invariant.1 ∙ sym (after_one c.args.draws.now.state c.loop-number.number),
)
