use Rattle.std.proofs.Common.{subst}
use Rattle.adjust_protocol.specs.Moves.{Running, Rule}
use Rattle.adjust_protocol.specs.Steps.{IsRule}
use Rattle.adjust_protocol.specs.Filled.{filled_quiet, quiet_claim, running_of}
use Rattle.adjust_protocol.specs.Answers.{claim_moves, ClaimAnswer}
use Rattle.adjust_protocol.proofs.board.Board.claim.Goals as goal

pub invariant_of-self : goal.invariant_of-self
invariant_of-self g c =
    let rule : Rule = record { redivided = g.V.Division.redivided; cut = g.V.Division.cut } in
    let laws : IsRule rule = record { deposits_kept = g.met.V.Division.deposits_kept; positions_kept = g.met.V.Division.positions_kept; none_out = g.met.V.Division.none_out; named = g.met.V.Division.named } in
    filled_quiet rule laws c.args.most c.self.inside.turns c.claim.new.self (claim_moves c.args.role c.claim.result) c.self.inside.outputs (quiet_claim c.args.role c.claim.result) c.claim.ensures.moves c.self.invariant

pub returns-clause-answer : goal.returns-clause-answer
returns-clause-answer g c = subst (λ (z : Running). ClaimAnswer z c.args.role c.claim.result) (running_of c.self.inside.turns c.self.inside.outputs _ c.self.view_is) c.claim.ensures.answer
