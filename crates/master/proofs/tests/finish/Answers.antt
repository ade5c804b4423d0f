use Rattle.std.proofs.Common.{◌∙◌}
use Rattle.master.proofs.SampleRuns.{empty_table, sample_value}
use Rattle.master.proofs.tests.finish.Goals as goal

pub finish-decision-requires-clause-value : goal.finish-decision-requires-clause-value
finish-decision-requires-clause-value g c =
    sample_value g.K.RunName.meaning c.args.fragment c.in_ok-new.field-0.value c.requires
    (empty_table c.in_ok-new.field-0.value c.new.result c.new-2.result c.new-parts.result (c.in_ok-new.ensures.ok ∙ c.in_ok-built.ensures.table) c.new-parts.ensures c.new-2.ensures)
