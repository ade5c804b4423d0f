use Rattle.pipeline.proofs.Kept.{kept_without}
use Rattle.pipeline.proofs.finishing.tested_rows.Goals as goal

pub returns-then-is_empty : goal.returns-then-is_empty
returns-then-is_empty c = kept_without c.args.layout.now c.args.tests.now c.args.rows c.is_empty.result c.is_empty.ensures c.if-is_empty.true
