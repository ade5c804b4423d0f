use Rattle.adjust_protocol.specs.Moves.{Rule}
use Rattle.adjust_protocol.specs.Room.{room_ask}
use Rattle.engine_bench.proofs.board.ask.Goals as goal

pub returns-in-Cut : goal.returns-in-Cut
returns-in-Cut g c =
    let rule : Rule = record { redivided = g.V.Division.redivided; cut = g.V.Division.cut } in
    room_ask rule c.args.degree c.args.board.now.running c.ask.new.self.running c.ask.result c.ask.ensures.moves

pub returns-in_default : goal.returns-in_default
returns-in_default g c =
    let rule : Rule = record { redivided = g.V.Division.redivided; cut = g.V.Division.cut } in
    room_ask rule c.args.degree c.args.board.now.running c.ask.new.self.running c.ask.result c.ask.ensures.moves
