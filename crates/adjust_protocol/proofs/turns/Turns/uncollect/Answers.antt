use Rattle.std.proofs.Common.{◌≡◌, [], ◌∷◌, true, false, sym, subst, refl}
use Rattle.adjust_protocol.specs.Moves.{Running, Rule, Makes, is_full, is_free}
use Rattle.adjust_protocol.specs.Moves as move
use Rattle.adjust_protocol.proofs.turns.Turns.uncollect.Goals as goal

pub returns : goal.returns
returns g c =
    let rule : Rule = record { redivided = g.V.Division.redivided; cut = g.V.Division.cut } in
    let s : Running = record { scan = g.V.Division.scan c.self.inside.division; held = c.self.inside.held; asked = c.self.inside.asked; collecting = c.self.inside.collecting } in
    let on = subst (λ (z : Running). z.collecting ≡ true) (sym c.self.view_is) c.requires in
    subst (λ (z : Running). Makes rule 64 z (move.Uncollect ∷ []) (record s { collecting = false })) c.self.view_is
    (((c.self.invariant.0.calm, on), tt), refl)
