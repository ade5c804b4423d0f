use Rattle.pipeline.proofs.SampleRuns.{scan_positions, scan_ready}
use Rattle.pipeline.proofs.samples.heap_scan.Goals as goal

pub returns-clause-ready : goal.returns-clause-ready
returns-clause-ready c = λ n. scan_ready _ n c.in_ok-scan.ensures

pub returns-clause-formed : goal.returns-clause-formed
returns-clause-formed c = (scan_ready _ 0 c.in_ok-scan.ensures).formed

pub returns-clause-positions : goal.returns-clause-positions
returns-clause-positions c = scan_positions _ _ 2 c.in_ok-scan.ensures
