use Rattle.adjust_protocol.specs.Moves.{Rule}
use Rattle.adjust_protocol.specs.Room.{room_claim}
use Rattle.engine_bench.proofs.board.claim.Goals as goal

pub returns : goal.returns
returns g c =
    let rule : Rule = record { redivided = g.V.Division.redivided; cut = g.V.Division.cut } in
    room_claim rule 16 c.args.role c.args.board.now.running c.claim.new.self.running c.claim.result c.claim.ensures.moves
