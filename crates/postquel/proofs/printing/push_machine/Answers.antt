use Rattle.postquel.proofs.Texts.{machine_between}
use Rattle.postquel.proofs.printing.push_machine.Goals as goal

pub returns-in_ok-extend_from_slice-in-len1-up-2 : goal.returns-in_ok-extend_from_slice-in-len1-up-2
returns-in_ok-extend_from_slice-in-len1-up-2 c = machine_between c.args.steps.now c.args.out.now.items c.extend_from_slice.new.self.items c.push_step_list.new.out.items c.extend_from_slice-in-len1-up.new.self.items
    c.in-len1-up.len_at_least c.in_ok-extend_from_slice-in-len1-up.ensures.items c.in_ok-push_step_list-in-len1-up.ensures c.in_ok-extend_from_slice-in-len1-up-2.ensures.items
