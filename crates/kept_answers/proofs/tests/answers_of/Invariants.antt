use Rattle.kept_answers.specs.Sample.{AreFours}
use Rattle.kept_answers.proofs.tests.answers_of.Given as goal

abbrev pub invariant-loop-table : goal.invariant-loop-table
invariant-loop-table l = AreFours l.answers.items
