use Rattle.io_cpu_scheduler.proofs.Balances.{balance_is}
use Rattle.io_cpu_scheduler.proofs.degree.balance.Goals as goal

pub returns-clause-value : goal.returns-clause-value
returns-clause-value c = balance_is _ _ _ _ c.least_gap.ensures
