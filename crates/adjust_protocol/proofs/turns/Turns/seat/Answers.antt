use Rattle.std.proofs.Common.{◌<◌, [], ◌∷◌, true, sym, subst, set}
use Rattle.adjust_protocol.specs.Moves.{Running, Rule, Seat, Makes, holders, wanted}
use Rattle.adjust_protocol.specs.Steps.{makes_seat}
use Rattle.adjust_protocol.proofs.turns.Turns.seat.Goals as goal

pub returns-clause-moves : goal.returns-clause-moves
returns-clause-moves g c =
    let rule : Rule = record { redivided = g.V.Division.redivided; cut = g.V.Division.cut } in
    let s : Running = record { scan = g.V.Division.scan c.self.inside.division; held = c.self.inside.held; asked = c.self.inside.asked; collecting = c.self.inside.collecting } in
    let room = subst (λ (z : Running). holders z < wanted z) (sym c.self.view_is) c.requires in
    let free = c.in-Some.ensures in
    subst (λ (z : Running). Makes rule 64 z (Seat c.in-Some.role ∷ []) (record s { held = set s.held c.in-Some.role true })) c.self.view_is
    (makes_seat rule s c.in-Some.role c.self.invariant.0.calm free.0 free.1 free.2 room)
