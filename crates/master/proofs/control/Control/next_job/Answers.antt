use Rattle.std.proofs.Common.{◌≡◌, ◌<◌, sym, ◌∙◌, ap, subst, arith, List, ℕ, length, refl, reverse, Some, None}
use Rattle.history.specs.Allowed.{IsLowest, NoneOpen}
use Rattle.history.specs.State.{IsOpen, MaySeat}
use Rattle.master.specs.Answers.{AllFinished, IsRest}
use Rattle.master.specs.Boards.{HasSeat}
use Rattle.master.specs.Firsts.{FirstHas, Waits}
use Rattle.master.specs.Kind.{Slotted}
use Rattle.master.specs.Ledger.{Ledger}
use Rattle.master.specs.Meaning.{run_of}
use Rattle.master.proofs.Nexts.{all_finished, is_rest, lowest_open, lowest_seat, none_open}
use Rattle.master.proofs.control.Control.next_job.Goals as goal

pub collect-requires : goal.collect-requires
collect-requires g c =
    let found = subst (λ (xs : List Slotted). FirstHas Waits xs c.self.inside.decision (Some c.in-Some.fragment)) c.deref.ensures.value c.in-Some.ensures in
    subst (λ (l : Ledger). IsLowest (run_of g.K.RunName.meaning) (IsOpen (run_of g.K.RunName.meaning) (reverse l.log)) c.in-Some.fragment) c.self.view_is
    (lowest_open g.K.RunName.meaning c.self.inside.history.items c.self.inside.slots.items _ c.in-Some.fragment c.self.invariant found)

pub seat-requires-clause-none : goal.seat-requires-clause-none
seat-requires-clause-none g c =
    let found = subst (λ (xs : List Slotted). FirstHas Waits xs c.self.inside.decision None) c.deref.ensures.value c.in_default.ensures in
    subst (λ (l : Ledger). NoneOpen (run_of g.K.RunName.meaning) (reverse l.log)) c.self.view_is
    (none_open g.K.RunName.meaning c.self.inside.history.items c.self.inside.slots.items _ c.self.invariant found)

pub seat-requires-clause-lowest : goal.seat-requires-clause-lowest
seat-requires-clause-lowest g c =
    let found = subst (λ (xs : List Slotted). FirstHas HasSeat xs c.self.inside.decision (Some c.in-Some-first_with_seat.fragment)) c.deref-2.ensures.value c.in-Some-first_with_seat.ensures in
    subst (λ (l : Ledger). IsLowest (run_of g.K.RunName.meaning) (MaySeat (run_of g.K.RunName.meaning) (reverse l.log)) c.in-Some-first_with_seat.fragment) c.self.view_is
    (lowest_seat g.K.RunName.meaning c.self.inside.history.items c.self.inside.slots.items _ c.in-Some-first_with_seat.fragment c.self.invariant found)

pub returns-then-self-len-clause-answer : goal.returns-then-self-len-clause-answer
returns-then-self-len-clause-answer g c = (
  refl,
  subst (λ (l : Ledger). AllFinished (run_of g.K.RunName.meaning) (reverse l.log)) c.self.view_is
      (all_finished g.K.RunName.meaning c.self.inside.history.items c.self.inside.slots.items _ c.self.invariant (omega (arith, c.if-self-len.true, c.len.ensures))),
)

pub returns-clause-answer : goal.returns-clause-answer
returns-clause-answer g c =
    let waits = subst (λ (xs : List Slotted). FirstHas Waits xs c.self.inside.decision None) c.deref.ensures.value c.in_default.ensures in
    let seats = subst (λ (xs : List Slotted). FirstHas HasSeat xs c.self.inside.decision None) c.deref-2.ensures.value c.in_default-first_with_seat.ensures in (
      refl,
      subst (λ (l : Ledger). IsRest (run_of g.K.RunName.meaning) (reverse l.log)) c.self.view_is
          (is_rest g.K.RunName.meaning c.self.inside.history.items c.self.inside.slots.items _ c.self.invariant waits seats (λ e. c.if-self-len.false (omega (arith, e, c.len.ensures)))),
    )
