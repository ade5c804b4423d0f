use Rattle.adjust_protocol.specs.Moves.{Running, Rule, Makes, is_held}
use Rattle.adjust_protocol.specs.Moves as move
use Rattle.adjust_protocol.specs.ReleaseLaws.{releases_then, release_one}
use Rattle.adjust_protocol.proofs.turns.Turns.free_role.Goals as goal

pub returns-clause-moves : goal.returns-clause-moves
returns-clause-moves g c =
    let rule : Rule = record { redivided = g.V.Division.redivided; cut = g.V.Division.cut } in
    releases_then rule _ c.give_up.new.self c.leave.new.self c.give_up.ensures.moves (release_one rule c.give_up.new.self c.leave.new.self (move.Leave c.args.role) tt c.leave.ensures)
