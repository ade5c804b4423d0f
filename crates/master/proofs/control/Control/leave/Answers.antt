use Rattle.std.proofs.Common.{◌≡◌, ◌+◌, ◌-◌, ◌<◌, ◌≤◌, ◌++◌, ◌∷◌, [], true, sym, ◌∙◌, ap, subst, arith, List, ℕ, length, refl, vec_len, vec_capacity, append-nil}
use Rattle.page_partition.specs.Scan.{out_of}
use Rattle.adjust_protocol.specs.Moves.{Running, is_held}
use Rattle.adjust_protocol.specs.Answers.{ClaimAnswer}
use Rattle.adjust_protocol.specs.declared.answers.Settled.{Settled}
use Rattle.history.specs.declared.event.Event.{Event}
use Rattle.history.specs.declared.event.Event.TheVariants as event
use Rattle.history.specs.Boards.{rule_by}
use Rattle.master.specs.Calls.{claim_events, settle_events}
use Rattle.master.specs.Kind.{Slotted, scan_of}
use Rattle.master.specs.Ledger.{Ledger, at, scans}
use Rattle.master.proofs.Kept.{call_leave, need_held, need_some}
use Rattle.master.proofs.control.Control.leave.Goals as goal

pub overflow_sub-self : goal.overflow_sub-self
overflow_sub-self g c =
    let lt = subst (λ (l : Ledger). c.args.fragment < length l.slots) (sym c.self.view_is) c.requires.fragment in
    let held = subst (λ (l : Ledger). is_held (scans l.slots c.args.fragment) c.args.role ≡ true) (sym c.self.view_is) c.requires.held in
    omega (arith, need_held (at c.self.inside.slots.items c.args.fragment) c.args.role held, need_some g.K.RunName.meaning c.self.inside.history.items c.self.inside.slots.items _ c.args.fragment c.self.invariant lt)

pub invariant_of-self : goal.invariant_of-self
invariant_of-self g c =
    let lt = subst (λ (l : Ledger). c.args.fragment < length l.slots) (sym c.self.view_is) c.requires.fragment in
    let held = subst (λ (l : Ledger). is_held (scans l.slots c.args.fragment) c.args.role ≡ true) (sym c.self.view_is) c.requires.held in
    call_leave g.K.RunName.meaning c.self.inside.history.items c.push_reserved.new.self.items c.self.inside.slots.items _ c.args.fragment c.args.role (c.self.inside.needed - 1) (vec_capacity c.push_reserved.new.self - vec_len c.push_reserved.new.self)
    c.index_mut-slot.result.now c.leave.new.self c.self.invariant lt held c.index_mut-slot.ensures.value c.leave.ensures.moves c.leave.ensures.rest c.push_reserved.ensures.items
    (omega arith) (omega (arith, c.self.invariant.kept, c.push_reserved.ensures.len, c.push_reserved.ensures.capacity))

pub returns-clause-fits : goal.returns-clause-fits
returns-clause-fits g c = (invariant_of-self g c).fits
