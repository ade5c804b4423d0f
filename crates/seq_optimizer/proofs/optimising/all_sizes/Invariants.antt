use Rattle.std.proofs.Common.{◌≡◌, map, ℕ}
use Rattle.std.specs.List.{range_with_len}
use Rattle.std.specs.Option.{option_map}
use Rattle.rel_meaning.specs.Expression.{expression_of}
use Rattle.plan_tree.specs.Conjuncts.{conjuncts}
use Rattle.seq_optimizer.specs.Estimates.{set_size, variable_sizes}
use Rattle.seq_optimizer.specs.Sets.{in_set}
use Rattle.seq_optimizer.proofs.optimising.all_sizes.Given as goal

abbrev pub invariant-loop-set : goal.invariant-loop-set
invariant-loop-set l = l.all.items ≡ map (λ (s : ℕ). set_size (conjuncts (option_map expression_of l.test)) (variable_sizes (conjuncts (option_map expression_of l.test)) l.stats) (in_set s)) (range_with_len 0 l.set)
