use Rattle.kept_answers.specs.Sample.{ArePerGroup}
use Rattle.kept_answers.proofs.tests.folds_of.Given as goal

abbrev pub invariant-loop-is_folded : goal.invariant-loop-is_folded
invariant-loop-is_folded l = ArePerGroup l.folds.items
