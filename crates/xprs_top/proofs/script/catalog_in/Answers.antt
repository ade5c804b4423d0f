use Rattle.xprs_top.proofs.Indexes.{indexed}
use Rattle.xprs_top.proofs.script.catalog_in.Goals as goal

pub returns-in-Ok-clause-indexes : goal.returns-in-Ok-clause-indexes
returns-in-Ok-clause-indexes c = indexed c.args.bytes.now c.in-Ok.catalog c.in-Ok.ensures.value
