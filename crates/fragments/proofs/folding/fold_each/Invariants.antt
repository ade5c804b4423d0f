use Rattle.std.proofs.Common.{◌≡◌, map}
use Rattle.plan_tree.specs.Pieces.{pieces_of}
use Rattle.fragments.specs.Folds.{folded}
use Rattle.fragments.proofs.folding.fold_each.Given as goal

abbrev pub invariant-loop-fragment : goal.invariant-loop-fragment
invariant-loop-fragment l = pieces_of l.more.items ≡ map (folded l.folds) (pieces_of l.yielded)
