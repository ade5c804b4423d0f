use Rattle.std.proofs.Common.{◌∙◌}
use Rattle.master.proofs.SampleRuns.{empty_table, sample_value}
use Rattle.engine_bench.proofs.control.finish.Goals as goal

pub finish-requires-clause-value : goal.finish-requires-clause-value
finish-requires-clause-value g c =
    sample_value g.K.RunName.meaning c.args.fragment c.in_ok-value.value.value c.requires
    (empty_table c.in_ok-value.value.value c.new.result c.new-2.result c.new-parts.result (c.in_ok-value.ensures.ok ∙ c.in_ok-built.ensures.table) c.new-parts.ensures c.new-2.ensures)
