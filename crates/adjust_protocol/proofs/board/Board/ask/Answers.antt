use Rattle.adjust_protocol.specs.Moves.{Rule}
use Rattle.adjust_protocol.specs.Steps.{IsRule}
use Rattle.adjust_protocol.specs.Filled.{filled_quiet, quiet_ask}
use Rattle.adjust_protocol.specs.Answers.{ask_moves}
use Rattle.adjust_protocol.proofs.board.Board.ask.Goals as goal

pub invariant_of-self : goal.invariant_of-self
invariant_of-self g c =
    let rule : Rule = record { redivided = g.V.Division.redivided; cut = g.V.Division.cut } in
    let laws : IsRule rule = record { deposits_kept = g.met.V.Division.deposits_kept; positions_kept = g.met.V.Division.positions_kept; none_out = g.met.V.Division.none_out; named = g.met.V.Division.named } in
    filled_quiet rule laws 64 c.self.inside.turns c.ask.new.self (ask_moves c.args.degree c.ask.result) c.self.inside.outputs (quiet_ask c.args.degree c.ask.result) c.ask.ensures.moves c.self.invariant
