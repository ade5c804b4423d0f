use Rattle.xprs_top.proofs.Short.{short_rows}
use Rattle.xprs_top.proofs.input.table_input.Goals as goal

pub returns-in-Ok-clause-short : goal.returns-in-Ok-clause-short
returns-in-Ok-clause-short g c = short_rows c.args.relation.now.columns c.as_slice.result.now c.in-Ok.rows c.in-Ok.ensures.value
