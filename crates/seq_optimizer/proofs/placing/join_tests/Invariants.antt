use Rattle.std.proofs.Common.{◌≡◌, map, take}
use Rattle.rel_meaning.specs.Expression.{expression_of}
use Rattle.plan_tree.specs.Trees.{join_tests}
use Rattle.seq_optimizer.specs.Compared.{expression_at}
use Rattle.seq_optimizer.specs.Sets.{in_set}
use Rattle.seq_optimizer.proofs.placing.join_tests.Given as goal

abbrev pub invariant-loop-conjunct : goal.invariant-loop-conjunct
invariant-loop-conjunct l = map expression_of l.tests.items ≡ join_tests l.is_root (in_set l.first) (in_set l.second) (map expression_at (take l.conjunct-index l.conjuncts))
