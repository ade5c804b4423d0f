use Rattle.std.specs.List.{AllByRecursion}
use Rattle.kept_answers.specs.Sample.{AreFour}
use Rattle.kept_answers.proofs.tests.rows_of.Given as goal

abbrev pub invariant-loop-numbers : goal.invariant-loop-numbers
invariant-loop-numbers l = AllByRecursion AreFour l.rows.items
