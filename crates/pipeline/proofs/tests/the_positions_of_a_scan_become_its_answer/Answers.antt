use Rattle.pipeline.proofs.tests.the_positions_of_a_scan_become_its_answer.Goals as goal

pub value_of-table-requires : goal.value_of-table-requires
value_of-table-requires g c = record { ready = rw c.new.ensures (c.in_ok-scan.ensures.ready _) }
