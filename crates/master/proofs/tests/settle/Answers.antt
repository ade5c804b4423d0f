use Rattle.page_partition.specs.Scan.{out_of}
use Rattle.master.specs.Ledger.{scans}
use Rattle.master.proofs.SampleRuns.{sample_outs}
use Rattle.master.proofs.tests.settle.Goals as goal

pub settle-requires-clause-outs : goal.settle-requires-clause-outs
settle-requires-clause-outs g c =
    sample_outs g.K.RunName.meaning c.args.fragment (out_of (scans c.args.control.now.slots c.args.fragment).scan.marks c.args.role) c.in_ok-outputs.outputs c.requires c.in_ok-outputs.ensures
