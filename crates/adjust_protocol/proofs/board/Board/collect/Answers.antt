use Rattle.std.proofs.lemmas.Bool.{eqb-true, false≢true}
use Rattle.std.proofs.Common.{◌⊎◌, ◌≡◌, true, false, ap, ◌∙◌, sym, subst, Some, map, refl}
use Rattle.adjust_protocol.specs.Moves.{Running, Rule, is_full}
use Rattle.adjust_protocol.specs.Steps.{not_collected}
use Rattle.adjust_protocol.specs.Full.{Kept, CollectAnswer}
use Rattle.adjust_protocol.specs.Filled.{filled_full, running_of}
use Rattle.adjust_protocol.proofs.board.Board.collect.Goals as goal

pub returns-clause-answer : goal.returns-clause-answer
returns-clause-answer g c =
    let rule : Rule = record { redivided = g.V.Division.redivided; cut = g.V.Division.cut } in
    let may = c.may_collect.ensures.0 c.if-not-may_collect.false in
    subst (λ (z : Kept g.row.T.Denot). CollectAnswer rule z (record { running = c.collect.new.self; outputs = c.self.inside.outputs }) (Some c.in_ok-all.all)) c.self.view_is
    (may.0, may.1, c.collect.ensures, refl, ap (map Some) c.in_ok-all.ensures ∙ filled_full c.self.inside.outputs c.self.inside.turns.scan.marks c.self.invariant (eqb-true _ _ may.0))

pub returns-then-not-may_collect-clause-answer : goal.returns-then-not-may_collect-clause-answer
returns-then-not-may_collect-clause-answer g c = (
  refl,
  subst (λ (z : Running). (is_full z.scan.marks ≡ false) ⊎ (z.collecting ≡ true)) (running_of c.self.inside.turns c.self.inside.outputs _ c.self.view_is)
      (not_collected (is_full c.self.inside.turns.scan.marks) c.self.inside.turns.collecting (λ h. false≢true (sym c.if-not-may_collect.true ∙ c.may_collect.ensures.1 h))),
)
