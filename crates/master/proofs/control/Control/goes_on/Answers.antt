use Rattle.std.proofs.Common.{◌≡◌, reverse, subst}
use Rattle.master.specs.Answers.{IsRest}
use Rattle.master.specs.Ledger.{Ledger}
use Rattle.master.specs.Meaning.{run_of}
use Rattle.master.specs.Release.{AreReleased}
use Rattle.master.proofs.Progress.{no_rest}
use Rattle.master.proofs.control.Control.goes_on.Goals as goal

pub returns : goal.returns
returns g c =
    subst (λ (l : Ledger). AreReleased l.slots → IsRest (run_of g.K.RunName.meaning) (reverse l.log) → ⊥) c.self.view_is
    (no_rest g.K.RunName.meaning c.self.inside.history.items c.self.inside.slots.items _ c.self.invariant)
