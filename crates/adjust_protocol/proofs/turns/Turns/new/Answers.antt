use Rattle.std.proofs.Common.{refl, ap, sym, arith}
use Rattle.page_partition.specs.Scan.{Scan}
use Rattle.adjust_protocol.specs.Moves.{Rule}
use Rattle.adjust_protocol.specs.Steps.{IsRule, kept_new}
use Rattle.adjust_protocol.proofs.turns.Turns.new.Goals as goal

pub invariant_of-result : goal.invariant_of-result
invariant_of-result g c =
    let rule : Rule = record { redivided = g.V.Division.redivided; cut = g.V.Division.cut } in
    let laws : IsRule rule = record { deposits_kept = g.met.V.Division.deposits_kept; positions_kept = g.met.V.Division.positions_kept; none_out = g.met.V.Division.none_out; named = g.met.V.Division.named } in (
      kept_new rule laws c.args.positions c.args.degree c.args.asks _ (g.V.Division.scan c.in_ok-division.division) (omega arith) c.requires.low c.requires.high refl c.in_ok-division.ensures,
      sym (ap (λ (z : Scan). z.degree) c.in_ok-division.ensures),
      (c.requires.low, c.requires.high),
    )
