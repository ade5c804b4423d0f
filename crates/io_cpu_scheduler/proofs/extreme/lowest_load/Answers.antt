use Rattle.std.proofs.Common.{sym, ◌∙◌}
use Rattle.io_cpu_scheduler.proofs.Leaders.{lowest_is}
use Rattle.io_cpu_scheduler.proofs.extreme.lowest_load.Goals as goal

pub returns-clause-value : goal.returns-clause-value
returns-clause-value c = c.first_load.ensures.value ∙ sym (lowest_is _ c.requires.ready)
