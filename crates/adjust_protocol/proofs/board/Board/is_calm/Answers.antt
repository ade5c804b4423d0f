use Rattle.std.proofs.Common.{subst}
use Rattle.adjust_protocol.specs.Full.{Kept}
use Rattle.adjust_protocol.specs.Kept.{IsCalm}
use Rattle.adjust_protocol.proofs.board.Board.is_calm.Goals as goal

pub returns : goal.returns
returns g c = subst (λ (z : Kept g.row.T.Denot). IsCalm z) c.self.view_is (record {
  filled = c.self.invariant;
  calm = c.is_calm.ensures.calm;
  degree = c.is_calm.ensures.degree;
  pending = c.is_calm.ensures.pending;
  roles = c.is_calm.ensures.roles;
  named = c.is_calm.ensures.named;
})
