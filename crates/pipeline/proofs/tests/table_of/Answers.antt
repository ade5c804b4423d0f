use Rattle.pipeline.proofs.SampleRuns.{table_shaped}
use Rattle.pipeline.proofs.tests.table_of.Goals as goal

pub value_of-requires : goal.value_of-requires
value_of-requires c = record { ready = rw c.new.ensures (c.in_ok-build.ensures.ready _) }

pub returns-clause-table : goal.returns-clause-table
returns-clause-table c = rw c.in_ok-new.ensures.ok (table_shaped _ c.args.var _ c.in_ok-build.ensures.piece c.in_ok-table.ensures.kept)
