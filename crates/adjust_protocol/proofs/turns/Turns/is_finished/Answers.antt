use Rattle.std.proofs.Common.{ap, ◌∙◌, sym, inl, inr}
use Rattle.std.proofs.lemmas.Bool.{cases_eq, eq-eqb, ne_eqb}
use Rattle.adjust_protocol.specs.Moves.{Running, is_full}
use Rattle.adjust_protocol.specs.Steps.{full_is, full_not}
use Rattle.adjust_protocol.proofs.turns.Turns.is_finished.Goals as goal

pub returns : goal.returns
returns g c =
    let s : Running = record { scan = g.V.Division.scan c.self.inside.division; held = c.self.inside.held; asked = c.self.inside.asked; collecting = c.self.inside.collecting } in
    let sound = c.self.invariant.0.sound in
    let m = c.self.inside.missing in
    (elim (cases_eq m 0) [
      | inl z ↦ (eq-eqb m 0 z) ∙ sym (full_is s m sound z)
      | inr nz ↦ (ne_eqb m 0 nz) ∙ sym (full_not s m sound nz)
    ]) ∙ ap (λ (z : Running). is_full z.scan.marks) c.self.view_is
