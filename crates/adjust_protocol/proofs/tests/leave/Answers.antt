use Rattle.adjust_protocol.specs.Moves.{Rule}
use Rattle.adjust_protocol.specs.Room.{room_leave}
use Rattle.adjust_protocol.proofs.tests.leave.Goals as goal

pub returns : goal.returns
returns g c =
    let rule : Rule = record { redivided = g.V.Division.redivided; cut = g.V.Division.cut } in
    room_leave rule c.args.role c.args.board.now.running c.leave.new.self.running c.leave.ensures.moves
