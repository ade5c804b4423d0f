use Rattle.pipeline.proofs.SampleRuns.{entries_ready, scan_positions}
use Rattle.pipeline.proofs.samples.index_scan.Goals as goal

pub returns-clause-ready : goal.returns-clause-ready
returns-clause-ready c = entries_ready _ c.in_ok-scan.ensures

pub returns-clause-positions : goal.returns-clause-positions
returns-clause-positions c = scan_positions _ _ 6 c.in_ok-scan.ensures
