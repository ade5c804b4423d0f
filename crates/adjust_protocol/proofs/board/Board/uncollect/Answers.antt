use Rattle.std.proofs.Common.{[], ◌∷◌, subst}
use Rattle.adjust_protocol.specs.Moves.{Running, Rule, Makes, is_full, is_free}
use Rattle.adjust_protocol.specs.Moves as move
use Rattle.adjust_protocol.specs.Filled.{running_of}
use Rattle.adjust_protocol.proofs.board.Board.uncollect.Goals as goal

pub returns-clause-moves : goal.returns-clause-moves
returns-clause-moves g c =
    let rule : Rule = record { redivided = g.V.Division.redivided; cut = g.V.Division.cut } in
    subst (λ (z : Running). Makes rule 64 z (move.Uncollect ∷ []) c.uncollect.new.self) (running_of c.self.inside.turns c.self.inside.outputs _ c.self.view_is) c.uncollect.ensures
