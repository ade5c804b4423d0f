use Rattle.std.proofs.Common.{◌≡◌, map, take}
use Rattle.plan_tree.specs.Keys.{keys_of}
use Rattle.seq_optimizer.specs.Compared.{expression_at}
use Rattle.seq_optimizer.specs.Sets.{in_set}
use Rattle.seq_optimizer.proofs.placing.join_keys.Given as goal

abbrev pub invariant-loop-conjunct : goal.invariant-loop-conjunct
invariant-loop-conjunct l = l.keys.items ≡ keys_of (in_set l.first) (in_set l.second) (map expression_at (take l.conjunct-index l.conjuncts))
