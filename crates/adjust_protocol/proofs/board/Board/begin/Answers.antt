use Rattle.std.proofs.Common.{◌≡◌, [], ap, ◌∙◌, sym, subst}
use Rattle.adjust_protocol.specs.Moves.{Running, Rule}
use Rattle.page_partition.specs.Scan.{IsIdle}
use Rattle.adjust_protocol.specs.Steps.{IsRule}
use Rattle.adjust_protocol.specs.Filled.{filled_began, running_of}
use Rattle.page_partition.specs.Scan.{places, is_deposited}
use Rattle.adjust_protocol.specs.HistoryLaws.{began_fresh}
use Rattle.adjust_protocol.proofs.board.Board.begin.Goals as goal

pub begin-requires-clause-idle : goal.begin-requires-clause-idle
begin-requires-clause-idle g c = subst (λ (z : Running). IsIdle z.scan.marks) (sym (running_of c.self.inside.turns c.self.inside.outputs _ c.self.view_is)) c.requires.idle

pub invariant_of-self : goal.invariant_of-self
invariant_of-self g c =
    let rule : Rule = record { redivided = g.V.Division.redivided; cut = g.V.Division.cut } in
    let laws : IsRule rule = record { deposits_kept = g.met.V.Division.deposits_kept; positions_kept = g.met.V.Division.positions_kept; none_out = g.met.V.Division.none_out; named = g.met.V.Division.named } in
    let fresh = subst (λ (z : Running). places is_deposited z.scan.marks ≡ []) (sym (running_of c.self.inside.turns c.self.inside.outputs _ c.self.view_is)) c.requires.fresh in
    filled_began rule laws c.args.degree c.self.inside.outputs c.self.inside.turns.scan.marks c.begin.new.self.scan.marks fresh (ap (λ (z : Running). z.scan.marks) c.begin.ensures) c.self.invariant

pub returns-clause-fresh : goal.returns-clause-fresh
returns-clause-fresh g c positions from room e =
    let rule : Rule = record { redivided = g.V.Division.redivided; cut = g.V.Division.cut } in
    let laws : IsRule rule = record { deposits_kept = g.met.V.Division.deposits_kept; positions_kept = g.met.V.Division.positions_kept; none_out = g.met.V.Division.none_out; named = g.met.V.Division.named } in
    let running = running_of c.self.inside.turns c.self.inside.outputs _ c.self.view_is in
    c.begin.ensures ∙ began_fresh rule laws positions from c.args.degree room c.self.inside.turns (running ∙ e)
