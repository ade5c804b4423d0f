use Rattle.xprs_top.specs.Faults.{piece_bytes}
use Rattle.xprs_top.proofs.Fronts.{front_piece, front_all}
use Rattle.xprs_top.proofs.piece.pour_all.Goals as goal

pub returns-in_err-pour_piece-clause-front : goal.returns-in_err-pour_piece-clause-front
returns-in_err-pour_piece-clause-front g c = front_piece piece_bytes _ _ _ c.args.pieces.now c.loop-piece.piece-index _ c.loop-piece-test.true c.loop-piece.invariant.written c.pour_piece.ensures.front

pub returns-clause-front : goal.returns-clause-front
returns-clause-front g c = front_all piece_bytes _ _ c.args.pieces.now c.loop-piece.piece-index c.loop-piece-test.false c.loop-piece.invariant.written
