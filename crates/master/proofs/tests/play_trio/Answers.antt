use Rattle.std.proofs.Common.{List, subst, sym}
use Rattle.plan_tree.specs.Pieces.{pieces_of}
use Rattle.plan_tree.specs.WellFormed.{AreWellFormed}
use Rattle.plan_tree.specs.declared.fragment.Fragment.{Fragment}
use Rattle.master.proofs.SampleRuns.{trio_formed}
use Rattle.master.proofs.tests.play_trio.Goals as goal

pub run-requires-clause-formed : goal.run-requires-clause-formed
run-requires-clause-formed g c = subst (λ (fs : List Fragment). AreWellFormed (pieces_of fs)) (sym c.in_ok-fragments.ensures) trio_formed
