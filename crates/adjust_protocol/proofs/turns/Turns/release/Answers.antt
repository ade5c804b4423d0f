use Rattle.std.proofs.Common.{◌≡◌, [], false, ap, ◌∙◌, sym, arith, below_more}
use Rattle.page_partition.specs.Scan.{out_of}
use Rattle.adjust_protocol.specs.Moves.{Running, Rule, Makes, is_held}
use Rattle.adjust_protocol.specs.Moves as move
use Rattle.adjust_protocol.specs.Steps.{IsRule, calm_none}
use Rattle.adjust_protocol.specs.Release.{Releases}
use Rattle.adjust_protocol.specs.ReleaseLaws.{releases_then, release_one, idle_released, unheld_released}
use Rattle.adjust_protocol.proofs.turns.Turns.release.Goals as goal

pub loop-role-preserved : goal.loop-role-preserved
loop-role-preserved g c =
    let rule : Rule = record { redivided = g.V.Division.redivided; cut = g.V.Division.cut } in
    let laws : IsRule rule = record { deposits_kept = g.met.V.Division.deposits_kept; positions_kept = g.met.V.Division.positions_kept; none_out = g.met.V.Division.none_out; named = g.met.V.Division.named } in (
      releases_then rule _ c.loop-role.self c.free_role.new.self c.loop-role.invariant.0 c.free_role.ensures.moves,
      below_more (λ q. (out_of c.free_role.new.self.scan.marks q ≡ []) × (is_held c.free_role.new.self q ≡ false)) c.loop-role.role
          (λ q h. let i = c.loop-role.invariant.1 q h in (idle_released rule laws q c.loop-role.self c.free_role.new.self c.free_role.ensures.moves i.0, unheld_released rule q c.loop-role.self c.free_role.new.self c.free_role.ensures.moves i.1))
          (c.free_role.ensures.out, c.free_role.ensures.held),
    )

pub returns-then-not-is_collecting-clause-ended : goal.returns-then-not-is_collecting-clause-ended
returns-then-not-is_collecting-clause-ended g c = record {
  idle = λ r h. (c.loop-role.invariant.1 r (omega arith)).0;
  unheld = λ r h. (c.loop-role.invariant.1 r (omega arith)).1;
  uncollected = sym c.is_collecting.ensures.collecting ∙ c.if-not-is_collecting.true;
  unasked = calm_none c.loop-role.self.asked c.is_collecting.ensures.calm (λ r h. (c.loop-role.invariant.1 r (omega arith)).0);
}

pub returns-clause-moves : goal.returns-clause-moves
returns-clause-moves g c =
    let rule : Rule = record { redivided = g.V.Division.redivided; cut = g.V.Division.cut } in
    releases_then rule _ c.loop-role.self c.uncollect.new.self c.loop-role.invariant.0 (release_one rule c.loop-role.self c.uncollect.new.self move.Uncollect tt c.uncollect.ensures)

pub returns-clause-ended : goal.returns-clause-ended
returns-clause-ended g c =
    let rule : Rule = record { redivided = g.V.Division.redivided; cut = g.V.Division.cut } in
    let laws : IsRule rule = record { deposits_kept = g.met.V.Division.deposits_kept; positions_kept = g.met.V.Division.positions_kept; none_out = g.met.V.Division.none_out; named = g.met.V.Division.named } in
    let last : Releases rule c.loop-role.self c.uncollect.new.self = release_one rule c.loop-role.self c.uncollect.new.self move.Uncollect tt c.uncollect.ensures in
    record {
      idle = λ r h. idle_released rule laws r c.loop-role.self c.uncollect.new.self last (c.loop-role.invariant.1 r (omega arith)).0;
      unheld = λ r h. unheld_released rule r c.loop-role.self c.uncollect.new.self last (c.loop-role.invariant.1 r (omega arith)).1;
      uncollected = ap (λ (z : Running). z.collecting) c.uncollect.ensures.1;
      unasked = ap (λ (z : Running). z.asked) c.uncollect.ensures.1 ∙ calm_none c.loop-role.self.asked c.is_collecting.ensures.calm (λ r h. (c.loop-role.invariant.1 r (omega arith)).0);
    }
