use Rattle.adjust_protocol.specs.Moves.{Rule}
use Rattle.adjust_protocol.specs.Steps.{IsRule}
use Rattle.adjust_protocol.specs.ReleaseLaws.{release_settle, emptied}
use Rattle.adjust_protocol.proofs.turns.Turns.give_up.Goals as goal

pub returns-clause-out : goal.returns-clause-out
returns-clause-out g c =
    let rule : Rule = record { redivided = g.V.Division.redivided; cut = g.V.Division.cut } in
    let laws : IsRule rule = record { deposits_kept = g.met.V.Division.deposits_kept; positions_kept = g.met.V.Division.positions_kept; none_out = g.met.V.Division.none_out; named = g.met.V.Division.named } in
    emptied rule laws c.args.role c.args.self.now.asked c.settle.result c.args.self.now c.settle.new.self c.settle.ensures.moves

pub returns-clause-moves : goal.returns-clause-moves
returns-clause-moves g c =
    let rule : Rule = record { redivided = g.V.Division.redivided; cut = g.V.Division.cut } in
    release_settle rule c.args.role c.args.self.now.asked c.settle.result c.args.self.now c.settle.new.self c.settle.ensures.moves
