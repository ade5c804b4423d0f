use Rattle.std.proofs.Common.{ap}
use Rattle.adjust_protocol.specs.Moves.{Running, Rule}
use Rattle.adjust_protocol.specs.Steps.{IsRule}
use Rattle.adjust_protocol.specs.Filled.{filled_made}
use Rattle.adjust_protocol.proofs.board.Board.new.Goals as goal

pub invariant_of-result : goal.invariant_of-result
invariant_of-result g c =
    let rule : Rule = record { redivided = g.V.Division.redivided; cut = g.V.Division.cut } in
    let laws : IsRule rule = record { deposits_kept = g.met.V.Division.deposits_kept; positions_kept = g.met.V.Division.positions_kept; none_out = g.met.V.Division.none_out; named = g.met.V.Division.named } in
    filled_made rule laws c.args.positions c.args.degree c.in_ok-outputs.outputs c.in_ok-turns.turns.scan.marks c.in_ok-outputs.ensures (ap (λ (z : Running). z.scan.marks) c.in_ok-turns.ensures)
