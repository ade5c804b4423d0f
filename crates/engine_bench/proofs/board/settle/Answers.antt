use Rattle.std.proofs.Common.{length}
use Rattle.adjust_protocol.specs.Moves.{Rule}
use Rattle.adjust_protocol.specs.Room.{room_settle}
use Rattle.engine_bench.proofs.board.settle.Goals as goal

pub returns : goal.returns
returns g c =
    let rule : Rule = record { redivided = g.V.Division.redivided; cut = g.V.Division.cut } in
    room_settle rule c.args.board.now.running.asked c.args.role (length c.args.outputs) c.args.board.now.running c.settle.new.self.running c.settle.result c.settle.ensures.moves
