use Rattle.std.proofs.Common.{◌≡◌, map, take}
use Rattle.rel_meaning.specs.Expression.{expression_of}
use Rattle.seq_optimizer.specs.Compared.{expression_at}
use Rattle.seq_optimizer.proofs.optimising.one_tree.Given as goal

abbrev pub invariant-loop-conjunct : goal.invariant-loop-conjunct
invariant-loop-conjunct l = map expression_of l.tests.items ≡ map expression_at (take l.conjunct-index l.conjuncts)
