use Rattle.std.proofs.Common.{sym, ◌∙◌}
use Rattle.io_cpu_scheduler.proofs.Leaders.{extreme_is}
use Rattle.io_cpu_scheduler.proofs.extreme.extreme_load.Goals as goal

pub returns-clause-value : goal.returns-clause-value
returns-clause-value c = c.leading_load.ensures.value ∙ sym (extreme_is _ _ _ c.requires.ready)
