use Rattle.std.proofs.Common.{length}
use Rattle.master.specs.Ledger.{scans}
use Rattle.master.specs.Meaning.{run_of}
use Rattle.engine.proofs.Remaining.{left_settled}
use Rattle.engine.proofs.lone.settle_alone.Goals as goal

pub returns-clause-left : goal.returns-clause-left
returns-clause-left g c =
    left_settled (run_of g.K.RunName.meaning) c.args.control.now.log c.settle.new.self.log c.args.fragment c.args.role (length c.args.outputs) (scans c.args.control.now.slots c.args.fragment).asked c.settle.result
    c.settle.ensures.fits.follows.legal c.settle.ensures.events c.requires.some
