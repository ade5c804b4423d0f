use Rattle.std.proofs.Common.{◌≡◌, ◌<◌, ◌≤◌, ◌+◌, ◌++◌, [], ◌∷◌, ℕ, Bool, List, true, false, ap, arith, drop, get_or, length, map, refl, sym, subst, ◌∙◌, append-nil, Option, Some, None}
use Rattle.std.proofs.lemmas.List.{get_or_default}
use Rattle.std.proofs.lemmas.List.Elements.{All-rest, All-same}
use Rattle.std.specs.List.{All}
use Rattle.std.specs.Vec.Iter.{into_iter_items}
use Rattle.hash_join.specs.Table.{Table}
use Rattle.master.specs.Ends.{marked_values}
use Rattle.master.specs.Kind.{Slotted, is_ended}
use Rattle.master.proofs.Answered.{all_ended, empty_rest, marked_more, marked_none}
use Rattle.master.proofs.answers.values_where.Goals as goal

pub loop-slot-init : goal.loop-slot-init
loop-slot-init c =
    let gives = c.into_iter-slot-iterator.ensures.into_iter_gives in
    let size = ap length gives.0 in
    record {
      values = ap (λ (xs : List Table). map Some xs ++ marked_values c.args.marks.now (into_iter_items c.into_iter-slot-iterator.result)) c.requires.empty;
      ended = All-same (λ s. is_ended s ≡ true) _ _ gives.0 (all_ended c.args.slots.items c.requires.ended);
      size = omega (arith, size, c.requires.marks);
      len = omega (arith, size, gives.1, c.args.slots.ok);
      few = omega (arith, c.requires.none);
      room = omega (arith, size, c.requires.room);
    }

pub bounds-marks-number : goal.bounds-marks-number
bounds-marks-number c = omega (arith, c.loop-slot.invariant.size, ap length c.in-Some.ensures.steps.0)

pub put_value-requires-clause-ended : goal.put_value-requires-clause-ended
put_value-requires-clause-ended c = All-same (λ s. is_ended s ≡ true) _ _ (sym c.in-Some.ensures.steps.0) c.loop-slot.invariant.ended 0 c.in-Some.slot (omega arith)

pub put_value-requires-clause-room : goal.put_value-requires-clause-room
put_value-requires-clause-room c = omega (arith, c.loop-slot.invariant.few, c.loop-slot.invariant.room, ap length c.in-Some.ensures.steps.0)

pub loop-slot-preserved : goal.loop-slot-preserved
loop-slot-preserved c =
    let i = c.loop-slot.invariant in
    let step = c.in-Some.ensures.steps in
    let size = ap length step.0 in
    record {
      values = marked_more (map Some (map (λ x. x.value) c.loop-slot.values.items)) (map Some (map (λ x. x.value) c.put_value.new.values.items)) (marked_values c.args.marks.now (into_iter_items c.into_iter-slot-iterator.result)) c.args.marks.now c.loop-slot.number
          (get_or c.args.marks.now c.loop-slot.number false) c.in-Some.slot (into_iter_items c.loop-slot.slot-iterator) (into_iter_items c.next.new.self) (omega (arith, i.size, size))
          (get_or_default c.args.marks.now c.loop-slot.number false (get_or c.args.marks.now c.loop-slot.number false) (omega (arith, i.size, size))) step.0 i.values c.put_value.ensures.items;
      ended = All-rest (λ s. is_ended s ≡ true) _ _ _ step.0 i.ended;
      size = omega (arith, i.size, size);
      len = omega (arith, i.len, step.1, size);
      few = omega (arith, i.few, c.put_value.ensures.len);
      room = omega (arith, i.room, size, c.put_value.ensures.capacity);
    }

pub returns : goal.returns
returns c =
    let i = c.loop-slot.invariant in
    let none = empty_rest (into_iter_items c.loop-slot.slot-iterator) (omega (arith, i.len, c.in-None.ensures.steps.0)) in
    let rest = ap (marked_values (drop c.loop-slot.number c.args.marks.now)) none ∙ marked_none (drop c.loop-slot.number c.args.marks.now) in
    sym (ap (λ xs. map Some (map (λ x. x.value) c.loop-slot.values.items) ++ xs) rest ∙ append-nil _) ∙ i.values ∙ ap (marked_values c.args.marks.now) c.into_iter-slot-iterator.ensures.into_iter_gives.0
