use Rattle.std.proofs.Common.{◌≡◌, ◌+◌, ◌-◌, ◌<◌, ◌≤◌, ◌++◌, ◌∷◌, [], true, sym, ◌∙◌, ap, subst, arith, List, ℕ, length, refl, reverse, set, vec_len, vec_capacity, append-nil, Option, Some, None}
use Rattle.history.specs.Allowed.{IsLowest, NoneOpen}
use Rattle.history.specs.State.{IsOpen, MaySeat}
use Rattle.history.specs.declared.event.Event.{Event}
use Rattle.history.specs.declared.event.Event.TheVariants as event
use Rattle.master.specs.Kind.{Slotted, scan_of}
use Rattle.master.specs.Ledger.{Ledger, at, scans}
use Rattle.master.specs.Meaning.{run_of}
use Rattle.master.proofs.Kept.{call_none}
use Rattle.master.proofs.Nexts.{collects_none, collects_some, is_collect, kept_collect, open_full}
use Rattle.master.proofs.control.Control.collect.Goals as goal

pub invariant_of-self-in_err-parts : goal.invariant_of-self-in_err-parts
invariant_of-self-in_err-parts g c =
    call_none g.K.RunName.meaning c.self.inside.history.items c.make_room.new.history.items c.self.inside.slots.items _ c.args.fragment (vec_capacity c.make_room.new.history - vec_len c.make_room.new.history)
    c.index_mut-slot.result.now c.collect.new.self c.self.invariant c.index_mut-slot.ensures.value (c.in_err-parts.ensures).err c.make_room.ensures.items (omega (arith, c.self.invariant.kept, c.make_room.ensures.len, c.make_room.ensures.capacity))

pub unreachable-requires : goal.unreachable-requires
unreachable-requires g c =
    let low = subst (λ (l : Ledger). IsLowest (run_of g.K.RunName.meaning) (IsOpen (run_of g.K.RunName.meaning) (reverse l.log)) c.args.fragment) (sym c.self.view_is) c.requires in
    let o = c.index_mut-slot.result.now in
    open_full g.K.RunName.meaning c.self.inside.history.items c.self.inside.slots.items _ c.args.fragment o c.self.invariant low c.index_mut-slot.ensures.value (collects_none o c.collect.new.self c.in_ok-parts.field-0 c.in_default.not-Some c.in_ok-parts.ensures.answer)

pub invariant_of-self-2 : goal.invariant_of-self-2
invariant_of-self-2 g c =
    let low = subst (λ (l : Ledger). IsLowest (run_of g.K.RunName.meaning) (IsOpen (run_of g.K.RunName.meaning) (reverse l.log)) c.args.fragment) (sym c.self.view_is) c.requires in
    let o = c.index_mut-slot.result.now in
    let told = collects_some o c.collect.new.self c.in_ok-parts.field-0 c.in-Some.parts c.in-Some.is c.in_ok-parts.ensures.answer in
    let items = c.push_reserved.ensures.items ∙ ap (λ es. es ++ event.Collect c.args.backend c.args.fragment ∷ []) c.make_room.ensures.items in
    kept_collect g.K.RunName.meaning c.self.inside.history.items c.push_reserved.new.self.items c.self.inside.slots.items _ c.args.backend c.args.fragment (c.self.inside.needed + 2) (vec_capacity c.push_reserved.new.self - vec_len c.push_reserved.new.self)
    o c.collect.new.self c.self.invariant low c.index_mut-slot.ensures.value told.0 items (omega arith) (omega (arith, c.in_ok-make_room.ensures.ok, c.push_reserved.ensures.len, c.push_reserved.ensures.capacity))

pub returns-clause-fits : goal.returns-clause-fits
returns-clause-fits g c = (invariant_of-self-2 g c).fits

pub returns-clause-answer : goal.returns-clause-answer
returns-clause-answer g c =
    let low = subst (λ (l : Ledger). IsLowest (run_of g.K.RunName.meaning) (IsOpen (run_of g.K.RunName.meaning) (reverse l.log)) c.args.fragment) (sym c.self.view_is) c.requires in
    let o = c.index_mut-slot.result.now in
    let told = collects_some o c.collect.new.self c.in_ok-parts.field-0 c.in-Some.parts c.in-Some.is c.in_ok-parts.ensures.answer in
    is_collect g.K.RunName.meaning c.self.inside.history.items c.self.inside.slots.items _ c.args.self.now _ c.args.fragment c.in-Some.parts o c.collect.new.self c.self.invariant c.self.view_is low c.index_mut-slot.ensures.value told.0 told.1 refl
