use Rattle.std.proofs.Common.{◌≡◌, ◌<◌, ◌≤◌, List, Bool, Some, ap, arith, length, map, subst, sym, ◌∙◌}
use Rattle.master.specs.Ends.{AreAnswers, marked_values}
use Rattle.master.specs.Ledger.{Ledger}
use Rattle.master.proofs.Answered.{are_answers, ended_all, marks_enough, no_answers, room_enough}
use Rattle.master.proofs.control.Control.into_end.Goals as goal

pub returns-then-finishes-len-clause-answers : goal.returns-then-finishes-len-clause-answers
returns-then-finishes-len-clause-answers g c =
    let few : c.self.inside.finishes < length c.self.inside.slots.items = omega (arith, c.if-finishes-len.true, c.len.ensures) in
    subst (λ (l : Ledger). AreAnswers g.K.RunName.meaning l (map (λ x. x.value) c.from_vec.result)) c.self.view_is
    (no_answers g.K.RunName.meaning c.self.inside.history.items c.self.inside.slots.items _ (map (λ x. x.value) c.from_vec.result) c.self.invariant few (ap (map (λ x. x.value)) c.from_vec.ensures ∙ c.self.invariant.answers.1))

pub values_where-answers-requires-clause-ended : goal.values_where-answers-requires-clause-ended
values_where-answers-requires-clause-ended g c =
    ended_all g.K.RunName.meaning c.self.inside.history.items c.self.inside.slots.items _ c.self.invariant (λ few. absurd (omega (arith, few, c.len.ensures, c.if-finishes-len.false)))

pub values_where-answers-requires-clause-marks : goal.values_where-answers-requires-clause-marks
values_where-answers-requires-clause-marks g c =
    omega (arith, marks_enough g.K.RunName.meaning c.self.inside.history.items c.self.inside.slots.items _ c.self.invariant, ap (λ (bs : List Bool). length bs) c.deref.ensures.value)

pub values_where-answers-requires-clause-empty : goal.values_where-answers-requires-clause-empty
values_where-answers-requires-clause-empty g c = c.self.invariant.answers.1

pub values_where-answers-requires-clause-none : goal.values_where-answers-requires-clause-none
values_where-answers-requires-clause-none g c = c.self.invariant.answers.2

pub values_where-answers-requires-clause-room : goal.values_where-answers-requires-clause-room
values_where-answers-requires-clause-room g c = room_enough g.K.RunName.meaning c.self.inside.history.items c.self.inside.slots.items _ c.self.invariant

pub returns-clause-answers : goal.returns-clause-answers
returns-clause-answers g c =
    let items = c.self.inside.slots.items in
    let found = map (λ x. x.value) c.from_vec-2.result in
    let values = ap (λ xs. map Some (map (λ x. x.value) xs)) c.from_vec-2.ensures ∙ c.values_where-answers.ensures ∙ ap (λ bs. marked_values bs items) c.deref.ensures.value in
    subst (λ (l : Ledger). AreAnswers g.K.RunName.meaning l found) c.self.view_is
    (are_answers g.K.RunName.meaning c.self.inside.history.items items _ found c.self.invariant (λ few. absurd (omega (arith, few, c.len.ensures, c.if-finishes-len.false))) values)
