use Rattle.std.proofs.Common.{◌≡◌, map, take}
use Rattle.seq_optimizer.specs.Bounds.{bounds_of}
use Rattle.seq_optimizer.specs.Compared.{expression_at}
use Rattle.seq_optimizer.proofs.bounds.bounds_of.Given as goal

abbrev pub invariant-loop-conjunct : goal.invariant-loop-conjunct
invariant-loop-conjunct l = l.bounds.items ≡ bounds_of l.var l.column (map expression_at (take l.conjunct-index l.conjunct-items))
