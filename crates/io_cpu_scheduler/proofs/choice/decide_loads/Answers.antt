use Rattle.io_cpu_scheduler.proofs.GoesOn.{decision_goes_on}
use Rattle.io_cpu_scheduler.proofs.Sense.{decision_sense}
use Rattle.io_cpu_scheduler.proofs.Starts.{decision_some}
use Rattle.io_cpu_scheduler.proofs.choice.decide_loads.Goals as goal

pub returns-clause-sensible : goal.returns-clause-sensible
returns-clause-sensible c = rw c.decide_among.ensures (decision_sense _ _ _ c.requires.machine c.requires.one)

pub returns-clause-goes_on : goal.returns-clause-goes_on
returns-clause-goes_on c = rw c.decide_among.ensures (decision_goes_on _ _ _ c.requires.one)

pub returns-clause-some : goal.returns-clause-some
returns-clause-some c = rw c.decide_among.ensures (λ some. decision_some _ _ _ c.requires.loads.1 some)
