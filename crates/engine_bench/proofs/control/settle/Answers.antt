use Rattle.page_partition.specs.Scan.{out_of}
use Rattle.master.specs.Ledger.{scans}
use Rattle.master.proofs.SampleRuns.{sample_outs}
use Rattle.engine_bench.proofs.control.settle.Goals as goal

pub settle-requires-clause-outs : goal.settle-requires-clause-outs
settle-requires-clause-outs g c =
    sample_outs g.K.RunName.meaning c.args.job.fragment (out_of (scans c.args.control.now.slots c.args.job.fragment).scan.marks c.args.job.role) c.in_ok-outputs.outputs c.requires.sample c.in_ok-outputs.ensures
