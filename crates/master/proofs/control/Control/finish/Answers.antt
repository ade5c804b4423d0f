use Rattle.std.proofs.Common.{◌≡◌, ◌+◌, ◌-◌, ◌<◌, ◌∷◌, true, sym, subst, arith, List, length, drop, refl, reverse, set, vec_len, vec_capacity}
use Rattle.io_cpu_scheduler.specs.Decisions.{nothing}
use Rattle.history.specs.State.{decision_after}
use Rattle.history.specs.declared.event.Event.TheVariants as event
use Rattle.master.specs.Gives.{CanDecide, Decides}
use Rattle.master.specs.Kind.{Slotted}
use Rattle.master.specs.Ledger.{Ledger, scans}
use Rattle.master.specs.Meaning.{run_of}
use Rattle.master.proofs.Finishes.{ended_as, ended_decides, ending_of, finish_decides, finish_none, finish_some, is_none, kept_finish, written_back}
use Rattle.master.proofs.control.Control.finish.Goals as goal

pub decide_all-divide-requires-clause-can : goal.decide_all-divide-requires-clause-can
decide_all-divide-requires-clause-can g c =
    let m = g.K.RunName.meaning in
    let i = c.self.inside in
    let lt = subst (λ (l : Ledger). c.args.fragment < length l.slots) (sym c.self.view_is) c.requires.fragment in
    let collecting = subst (λ (l : Ledger). (scans l.slots c.args.fragment).collecting ≡ true) (sym c.self.view_is) c.requires.collecting in
    let ending = ending_of m i.history.items i.slots.items _ c.args.fragment c.self.invariant lt collecting in
    let there = ended_as i.slots.items c.deref_mut.result.now c.args.fragment c.args.built.value c.index_mut-slot.result.now c.finish.new.self lt c.index_mut-slot.ensures.value c.finish.ensures c.deref_mut.ensures.value in
    let mach = c.machine_after-machine.result in
    subst (λ (xs : List Slotted). CanDecide mach xs) (sym there) (ended_decides m i.history.items i.slots.items _ c.args.fragment (i.finishes + 1) c.args.built.value mach ending refl c.machine_after-machine.ensures.value)

pub invariant_of-self : goal.invariant_of-self
invariant_of-self g c =
    let m = g.K.RunName.meaning in
    let i = c.self.inside in
    let lt = subst (λ (l : Ledger). c.args.fragment < length l.slots) (sym c.self.view_is) c.requires.fragment in
    let collecting = subst (λ (l : Ledger). (scans l.slots c.args.fragment).collecting ≡ true) (sym c.self.view_is) c.requires.collecting in
    let ending = ending_of m i.history.items i.slots.items _ c.args.fragment c.self.invariant lt collecting in
    let v = c.args.built.value in
    let there = ended_as i.slots.items c.deref_mut.result.now c.args.fragment v c.index_mut-slot.result.now c.finish.new.self lt c.index_mut-slot.ensures.value c.finish.ensures c.deref_mut.ensures.value in
    let call = c.decide_all-divide in
    let d = call.result.0 in
    let mach = c.machine_after-machine.result in
    let told = subst (λ (xs : List Slotted). Decides mach xs d call.result.1 call.new.slots) there call.ensures.decides in
    let back = written_back i.slots.len call.new.slots (drop (length call.new.slots) (set i.slots.items c.args.fragment c.finish.new.self)) (omega (arith, c.deref_mut.ensures.len, call.ensures.size)) in
    let items = finish_some i.history.items c.push_reserved.new.self.items c.push_reserved-in-Some.new.self.items c.args.fragment d c.in-Some.divide call.result.1 c.push_reserved.ensures.items c.push_reserved-in-Some.ensures.items c.in-Some.is in
    rw back
    (kept_finish m i.history.items c.push_reserved-in-Some.new.self.items i.slots.items call.new.slots _ c.args.fragment (i.finishes + 1) (i.needed - 2) (vec_capacity c.push_reserved-in-Some.new.self - vec_len c.push_reserved-in-Some.new.self) (vec_capacity call.new.running) (vec_capacity call.new.ready)
    v mach d call.result.1 ending c.requires.value refl c.machine_after-machine.ensures.value told.decided told.given items (omega arith) (omega (arith, c.self.invariant.kept, c.push_reserved.ensures.len, c.push_reserved.ensures.capacity, c.push_reserved-in-Some.ensures.len, c.push_reserved-in-Some.ensures.capacity)) (omega (arith, call.ensures.running)) (omega (arith, call.ensures.ready)))

pub invariant_of-self-in_default : goal.invariant_of-self-in_default
invariant_of-self-in_default g c =
    let m = g.K.RunName.meaning in
    let i = c.self.inside in
    let lt = subst (λ (l : Ledger). c.args.fragment < length l.slots) (sym c.self.view_is) c.requires.fragment in
    let collecting = subst (λ (l : Ledger). (scans l.slots c.args.fragment).collecting ≡ true) (sym c.self.view_is) c.requires.collecting in
    let ending = ending_of m i.history.items i.slots.items _ c.args.fragment c.self.invariant lt collecting in
    let v = c.args.built.value in
    let there = ended_as i.slots.items c.deref_mut.result.now c.args.fragment v c.index_mut-slot.result.now c.finish.new.self lt c.index_mut-slot.ensures.value c.finish.ensures c.deref_mut.ensures.value in
    let call = c.decide_all-divide in
    let d = call.result.0 in
    let mach = c.machine_after-machine.result in
    let told = subst (λ (xs : List Slotted). Decides mach xs d call.result.1 call.new.slots) there call.ensures.decides in
    let back = written_back i.slots.len call.new.slots (drop (length call.new.slots) (set i.slots.items c.args.fragment c.finish.new.self)) (omega (arith, c.deref_mut.ensures.len, call.ensures.size)) in
    let items = finish_none i.history.items c.push_reserved.new.self.items c.args.fragment d call.result.1 c.push_reserved.ensures.items (is_none call.result.1 c.in_default.not-Some) in
    rw back
    (kept_finish m i.history.items c.push_reserved.new.self.items i.slots.items call.new.slots _ c.args.fragment (i.finishes + 1) (i.needed - 2) (vec_capacity c.push_reserved.new.self - vec_len c.push_reserved.new.self) (vec_capacity call.new.running) (vec_capacity call.new.ready)
    v mach d call.result.1 ending c.requires.value refl c.machine_after-machine.ensures.value told.decided told.given items (omega arith) (omega (arith, c.self.invariant.kept, c.push_reserved.ensures.len, c.push_reserved.ensures.capacity)) (omega (arith, call.ensures.running)) (omega (arith, call.ensures.ready)))

pub returns-in-Some-clause-decision : goal.returns-in-Some-clause-decision
returns-in-Some-clause-decision g c =
    let m = g.K.RunName.meaning in
    let i = c.self.inside in
    let lt = subst (λ (l : Ledger). c.args.fragment < length l.slots) (sym c.self.view_is) c.requires.fragment in
    let collecting = subst (λ (l : Ledger). (scans l.slots c.args.fragment).collecting ≡ true) (sym c.self.view_is) c.requires.collecting in
    let ending = ending_of m i.history.items i.slots.items _ c.args.fragment c.self.invariant lt collecting in
    let v = c.args.built.value in
    let there = ended_as i.slots.items c.deref_mut.result.now c.args.fragment v c.index_mut-slot.result.now c.finish.new.self lt c.index_mut-slot.ensures.value c.finish.ensures c.deref_mut.ensures.value in
    let call = c.decide_all-divide in
    let d = call.result.0 in
    let mach = c.machine_after-machine.result in
    let told = subst (λ (xs : List Slotted). Decides mach xs d call.result.1 call.new.slots) there call.ensures.decides in
    subst (λ (l : Ledger). d ≡ decision_after (run_of m) (event.Finish c.args.fragment nothing ∷ reverse l.log)) c.self.view_is
    (finish_decides m i.history.items i.slots.items _ c.args.fragment (i.finishes + 1) v mach d ending refl c.machine_after-machine.ensures.value told.decided.value)

pub returns-in-Some-clause-fits : goal.returns-in-Some-clause-fits
returns-in-Some-clause-fits g c = (invariant_of-self g c).fits

pub returns-in_default-clause-decision : goal.returns-in_default-clause-decision
returns-in_default-clause-decision g c =
    let m = g.K.RunName.meaning in
    let i = c.self.inside in
    let lt = subst (λ (l : Ledger). c.args.fragment < length l.slots) (sym c.self.view_is) c.requires.fragment in
    let collecting = subst (λ (l : Ledger). (scans l.slots c.args.fragment).collecting ≡ true) (sym c.self.view_is) c.requires.collecting in
    let ending = ending_of m i.history.items i.slots.items _ c.args.fragment c.self.invariant lt collecting in
    let v = c.args.built.value in
    let there = ended_as i.slots.items c.deref_mut.result.now c.args.fragment v c.index_mut-slot.result.now c.finish.new.self lt c.index_mut-slot.ensures.value c.finish.ensures c.deref_mut.ensures.value in
    let call = c.decide_all-divide in
    let d = call.result.0 in
    let mach = c.machine_after-machine.result in
    let told = subst (λ (xs : List Slotted). Decides mach xs d call.result.1 call.new.slots) there call.ensures.decides in
    subst (λ (l : Ledger). d ≡ decision_after (run_of m) (event.Finish c.args.fragment nothing ∷ reverse l.log)) c.self.view_is
    (finish_decides m i.history.items i.slots.items _ c.args.fragment (i.finishes + 1) v mach d ending refl c.machine_after-machine.ensures.value told.decided.value)

pub returns-in_default-clause-fits : goal.returns-in_default-clause-fits
returns-in_default-clause-fits g c = (invariant_of-self-in_default g c).fits
