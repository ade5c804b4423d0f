use Rattle.adjust_protocol.specs.Moves.{Rule}
use Rattle.adjust_protocol.specs.Steps.{IsRule}
use Rattle.adjust_protocol.specs.History.{Setting}
use Rattle.adjust_protocol.specs.Told.{Divides}
use Rattle.adjust_protocol.specs.HistoryLaws.{lawful_calls}
use Rattle.adjust_protocol.proofs.board.Board.is_finished.Goals as goal

pub returns-clause-history : goal.returns-clause-history
returns-clause-history g c positions degree room calls low high ran =
    let rule : Rule = record { redivided = g.V.Division.redivided; cut = g.V.Division.cut } in
    let laws : IsRule rule = record { deposits_kept = g.met.V.Division.deposits_kept; positions_kept = g.met.V.Division.positions_kept; none_out = g.met.V.Division.none_out; named = g.met.V.Division.named } in
    let S : Setting = record { positions = positions; degree = degree; least = 1; most = 64; owns = g.V.Division.owns; cut = g.V.Division.cut_after } in
    let own : Divides rule S = record { divided = g.met.V.Division.owned_divided positions degree; cut_is = g.met.V.Division.cut_is positions } in
    lawful_calls rule S room laws own (g.met.V.Division.owned_start positions degree low) low high calls c.args.self.now.running ran
