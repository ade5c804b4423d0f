use Rattle.adjust_protocol.specs.Moves.{Rule}
use Rattle.adjust_protocol.specs.Room.{room_seat}
use Rattle.engine_bench.proofs.board.seat.Goals as goal

pub returns : goal.returns
returns g c =
    let rule : Rule = record { redivided = g.V.Division.redivided; cut = g.V.Division.cut } in
    room_seat rule c.args.board.now.running c.seat.new.self.running c.seat.result c.seat.ensures.moves
