use Rattle.master.specs.Meaning.{run_of}
use Rattle.engine.proofs.Remaining.{left_finished}
use Rattle.engine.proofs.lone.finish_fragment.Goals as goal

pub returns-clause-left : goal.returns-clause-left
returns-clause-left g c =
    left_finished (run_of g.K.RunName.meaning) c.args.control.now.log c.finish.new.self.log c.args.fragment c.finish.result c.finish.ensures.finishes.divide
    c.finish.ensures.fits.follows.legal c.finish.ensures.finishes.log
