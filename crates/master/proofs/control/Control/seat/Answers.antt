use Rattle.std.proofs.Common.{◌≡◌, ◌+◌, ◌-◌, ◌<◌, ◌≤◌, ◌++◌, ◌∷◌, [], true, sym, ◌∙◌, ap, subst, arith, List, ℕ, length, map, refl, reverse, set, vec_len, vec_capacity, append-nil, Option, Some, None}
use Rattle.history.specs.Allowed.{IsLowest, NoneOpen}
use Rattle.history.specs.State.{IsOpen, MaySeat}
use Rattle.history.specs.declared.event.Event.{Event}
use Rattle.history.specs.declared.event.Event.TheVariants as event
use Rattle.master.specs.Kind.{Slotted, scan_of, value_in}
use Rattle.master.specs.Ledger.{Ledger, at, scans}
use Rattle.master.specs.Meaning.{run_of}
use Rattle.master.proofs.Kept.{looked}
use Rattle.master.proofs.Nexts.{is_job, kept_seat, lowest_in, seat_fed, seat_few, seat_some}
use Rattle.master.proofs.control.Control.seat.Goals as goal

pub values_of-requires : goal.values_of-requires
values_of-requires g c =
    let low = subst (λ (l : Ledger). IsLowest (run_of g.K.RunName.meaning) (MaySeat (run_of g.K.RunName.meaning) (reverse l.log)) c.args.fragment) (sym c.self.view_is) c.requires.lowest in
    rw c.inputs-reads.ensures
    (seat_fed g.K.RunName.meaning c.self.inside.history.items c.self.inside.slots.items c.deref.result.now _ c.args.fragment c.index.result.now c.self.invariant low c.index.ensures c.deref.ensures.value)

pub seat-requires : goal.seat-requires
seat-requires g c =
    let low = subst (λ (l : Ledger). IsLowest (run_of g.K.RunName.meaning) (MaySeat (run_of g.K.RunName.meaning) (reverse l.log)) c.args.fragment) (sym c.self.view_is) c.requires.lowest in
    seat_few g.K.RunName.meaning c.self.inside.history.items c.self.inside.slots.items _ c.args.fragment c.index_mut-slot.result.now c.self.invariant low c.index_mut-slot.ensures.value

pub unreachable-requires : goal.unreachable-requires
unreachable-requires g c =
    let low = subst (λ (l : Ledger). IsLowest (run_of g.K.RunName.meaning) (MaySeat (run_of g.K.RunName.meaning) (reverse l.log)) c.args.fragment) (sym c.self.view_is) c.requires.lowest in
    seat_some g.K.RunName.meaning c.self.inside.history.items c.self.inside.slots.items _ c.args.fragment c.index_mut-slot.result.now c.self.invariant low c.index_mut-slot.ensures.value (c.in_default.ensures).answer

pub invariant_of-self-2 : goal.invariant_of-self-2
invariant_of-self-2 g c =
    let low = subst (λ (l : Ledger). IsLowest (run_of g.K.RunName.meaning) (MaySeat (run_of g.K.RunName.meaning) (reverse l.log)) c.args.fragment) (sym c.self.view_is) c.requires.lowest in
    let none = subst (λ (l : Ledger). NoneOpen (run_of g.K.RunName.meaning) (reverse l.log)) (sym c.self.view_is) c.requires.none in
    let items = c.push_reserved.ensures.items ∙ ap (λ es. es ++ event.Seat c.args.backend c.args.fragment c.in-Role.role ∷ []) c.make_room.ensures.items in
    kept_seat g.K.RunName.meaning c.self.inside.history.items c.push_reserved.new.self.items c.self.inside.slots.items _ c.args.backend c.args.fragment c.in-Role.role (c.self.inside.needed + 1) (vec_capacity c.push_reserved.new.self - vec_len c.push_reserved.new.self)
    c.index_mut-slot.result.now c.seat.new.self c.self.invariant none low c.index_mut-slot.ensures.value c.in-Role.ensures.moves c.seat.ensures.rest items (omega arith) (omega (arith, c.in_ok-make_room.ensures.ok, c.push_reserved.ensures.len, c.push_reserved.ensures.capacity))

pub returns-clause-fits : goal.returns-clause-fits
returns-clause-fits g c = (invariant_of-self-2 g c).fits

pub returns-clause-answer : goal.returns-clause-answer
returns-clause-answer g c =
    let low = subst (λ (l : Ledger). IsLowest (run_of g.K.RunName.meaning) (MaySeat (run_of g.K.RunName.meaning) (reverse l.log)) c.args.fragment) (sym c.self.view_is) c.requires.lowest in
    let slots = c.self.inside.slots.items in
    let lt = lowest_in (MaySeat (run_of g.K.RunName.meaning) (reverse c.self.inside.history.items)) g.K.RunName.meaning c.self.inside.history.items slots _ c.args.fragment c.self.invariant low in
    let values = c.in_ok-inputs.ensures ∙ ap (λ (xs : List Slotted). map (λ i. value_in (at xs i).stage) c.inputs-reads.result.now) c.deref.ensures.value
    ∙ ap (λ (ns : List ℕ). map (λ i. value_in (at slots i).stage) ns) (c.inputs-reads.ensures ∙ ap (λ (x : Slotted). x.inputs) (looked slots c.args.fragment c.index.result.now lt c.index.ensures)) in
    is_job g.K.RunName.meaning c.self.inside.history.items slots _ c.args.self.now _ c.args.fragment c.in-Role.role _ c.index_mut-slot.result.now c.seat.new.self c.self.invariant c.self.view_is low c.index_mut-slot.ensures.value values c.in-Role.ensures.moves c.seat.ensures.rest refl
