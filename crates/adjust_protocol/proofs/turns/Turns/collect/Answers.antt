use Rattle.std.proofs.Common.{◌≡◌, [], ◌∷◌, true, false, sym, subst, refl}
use Rattle.adjust_protocol.specs.Moves.{Running, Rule, Makes, is_full, is_free}
use Rattle.adjust_protocol.specs.Moves as move
use Rattle.adjust_protocol.proofs.turns.Turns.collect.Goals as goal

pub returns : goal.returns
returns g c =
    let rule : Rule = record { redivided = g.V.Division.redivided; cut = g.V.Division.cut } in
    let s : Running = record { scan = g.V.Division.scan c.self.inside.division; held = c.self.inside.held; asked = c.self.inside.asked; collecting = c.self.inside.collecting } in
    let full = subst (λ (z : Running). is_full z.scan.marks ≡ true) (sym c.self.view_is) c.requires.full in
    let free = subst (λ (z : Running). z.collecting ≡ false) (sym c.self.view_is) c.requires.free in
    subst (λ (z : Running). Makes rule 64 z (move.Collect ∷ []) (record s { collecting = true })) c.self.view_is
    (((c.self.invariant.0.calm, full, free), tt), refl)
