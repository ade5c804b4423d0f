use Rattle.adjust_protocol.specs.Moves.{Rule}
use Rattle.adjust_protocol.specs.Room.{room_ask}
use Rattle.adjust_protocol.proofs.tests.ask.Goals as goal

pub returns : goal.returns
returns g c =
    let rule : Rule = record { redivided = g.V.Division.redivided; cut = g.V.Division.cut } in
    room_ask rule c.args.degree c.args.board.now.running c.ask.new.self.running c.ask.result c.ask.ensures.moves
