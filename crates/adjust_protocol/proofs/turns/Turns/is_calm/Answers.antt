use Rattle.std.proofs.Common.{subst}
use Rattle.adjust_protocol.specs.Moves.{Running, IsDue}
use Rattle.adjust_protocol.proofs.turns.Turns.is_calm.Goals as goal

pub returns-clause-calm : goal.returns-clause-calm
returns-clause-calm g c = subst (λ (z : Running). IsDue z → ⊥) c.self.view_is c.self.invariant.0.calm
