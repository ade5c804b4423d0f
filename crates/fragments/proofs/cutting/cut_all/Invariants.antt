use Rattle.std.proofs.Common.{map}
use Rattle.plan_tree.specs.Pieces.{pieces_of}
use Rattle.plan_tree.specs.Views.{planned_of}
use Rattle.fragments.specs.Opened.{known_of}
use Rattle.fragments.proofs.SoFar.{SoFar}
use Rattle.fragments.proofs.cutting.cut_all.Given as goal

abbrev pub invariant-loop-number : goal.invariant-loop-number
invariant-loop-number l = SoFar (known_of l.known) l.stats (map planned_of l.plans) l.lasts.items (pieces_of l.fragments.items) l.number
