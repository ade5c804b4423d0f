use Rattle.std.proofs.Common.{◌<◌, arith, length, sym, ◌∙◌}
use Rattle.master.proofs.Releases.{gave_leave, gave_then_at}
use Rattle.master.proofs.control.Control.free_role.Goals as goal

pub returns-clause-gives_up : goal.returns-clause-gives_up
returns-clause-gives_up g c =
    let mid = c.give_back.new.self in
    let lt : c.args.fragment < length mid.slots = omega (arith, c.requires.fragment, c.give_back.ensures.gives_up.size) in
    gave_then_at c.args.fragment c.args.self.now mid c.leave.new.self c.give_back.ensures.gives_up
    (gave_leave c.args.fragment c.args.role mid c.leave.new.self lt c.requires.role (sym c.holds.ensures ∙ c.if-not-holds.false) c.give_back.ensures.out c.leave.ensures.events c.leave.ensures.slots).0

pub returns-clause-freed : goal.returns-clause-freed
returns-clause-freed g c =
    let mid = c.give_back.new.self in
    let lt : c.args.fragment < length mid.slots = omega (arith, c.requires.fragment, c.give_back.ensures.gives_up.size) in
    (gave_leave c.args.fragment c.args.role mid c.leave.new.self lt c.requires.role (sym c.holds.ensures ∙ c.if-not-holds.false) c.give_back.ensures.out c.leave.ensures.events c.leave.ensures.slots).1
