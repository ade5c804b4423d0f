use Rattle.std.proofs.Common.{◌≡◌, ℕ, ◌<◌, true, sym, subst}
use Rattle.adjust_protocol.specs.Moves.{Running, is_free}
use Rattle.std.specs.Bool.{OnTrue}
use Rattle.adjust_protocol.specs.Filled.{free_found}
use Rattle.adjust_protocol.proofs.turns.Turns.has_free_role.Goals as goal

pub returns-clause-yes : goal.returns-clause-yes
returns-clause-yes g c =
    let s : Running = record { scan = g.V.Division.scan c.self.inside.division; held = c.self.inside.held; asked = c.self.inside.asked; collecting = c.self.inside.collecting } in
    subst (λ (z : Running). OnTrue c.is_some.result ((r : ℕ) × (r < 64) × (is_free z r ≡ true))) c.self.view_is
    (subst (λ b. OnTrue b ((r : ℕ) × (r < 64) × (is_free s r ≡ true))) (sym c.is_some.ensures) (free_found s.scan.marks s.held s.asked c.first_free.result c.first_free.ensures))
