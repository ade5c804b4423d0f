use Rattle.pipeline.proofs.tests.the_rows_of_groups_are_counted.Goals as goal

pub value_of-table-requires : goal.value_of-table-requires
value_of-table-requires g c = record { ready = rw c.new.ensures (c.in_ok-counts.ensures _) }
