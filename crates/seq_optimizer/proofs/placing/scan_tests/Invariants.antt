use Rattle.std.proofs.Common.{◌≡◌, map, take}
use Rattle.rel_meaning.specs.Expression.{expression_of}
use Rattle.plan_tree.specs.Trees.{scan_tests}
use Rattle.seq_optimizer.specs.Compared.{expression_at}
use Rattle.seq_optimizer.specs.Sets.{in_set}
use Rattle.seq_optimizer.proofs.placing.scan_tests.Given as goal

abbrev pub invariant-loop-conjunct : goal.invariant-loop-conjunct
invariant-loop-conjunct l = map expression_of l.tests.items ≡ scan_tests l.is_root (in_set l.set) (map expression_at (take l.conjunct-index l.conjuncts))
