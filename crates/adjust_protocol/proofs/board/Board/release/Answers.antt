use Rattle.std.proofs.Common.{subst}
use Rattle.adjust_protocol.specs.Moves.{Running, Rule}
use Rattle.adjust_protocol.specs.Steps.{IsRule}
use Rattle.adjust_protocol.specs.Release.{Releases}
use Rattle.adjust_protocol.specs.Filled.{filled_released, running_of}
use Rattle.adjust_protocol.proofs.board.Board.release.Goals as goal

pub invariant_of-self : goal.invariant_of-self
invariant_of-self g c =
    let rule : Rule = record { redivided = g.V.Division.redivided; cut = g.V.Division.cut } in
    let laws : IsRule rule = record { deposits_kept = g.met.V.Division.deposits_kept; positions_kept = g.met.V.Division.positions_kept; none_out = g.met.V.Division.none_out; named = g.met.V.Division.named } in
    filled_released rule laws c.self.inside.turns c.release.new.self c.self.inside.outputs c.release.ensures.moves c.self.invariant

pub returns-clause-moves : goal.returns-clause-moves
returns-clause-moves g c =
    let rule : Rule = record { redivided = g.V.Division.redivided; cut = g.V.Division.cut } in
    subst (λ (z : Running). Releases rule z c.release.new.self) (running_of c.self.inside.turns c.self.inside.outputs _ c.self.view_is) c.release.ensures.moves
