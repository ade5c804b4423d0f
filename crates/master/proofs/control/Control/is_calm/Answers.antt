use Rattle.std.proofs.Common.{◌≡◌, ℕ, ◌<◌, length, subst}
use Rattle.adjust_protocol.specs.Moves.{IsDue}
use Rattle.master.specs.Ledger.{Fits, Ledger, scans}
use Rattle.master.proofs.control.Control.is_calm.Goals as goal

pub returns-clause-calm : goal.returns-clause-calm
returns-clause-calm g c = subst (λ (l : Ledger). (f : ℕ) → f < length l.slots → IsDue (scans l.slots f) → ⊥) c.self.view_is c.self.invariant.calm

pub returns-clause-fits : goal.returns-clause-fits
returns-clause-fits g c = subst (Fits g.K.RunName.meaning) c.self.view_is c.self.invariant.fits
