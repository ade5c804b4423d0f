use Rattle.std.proofs.Common.{◌≡◌, take, length, map}
use Rattle.std.specs.List.{range_with_len}
use Rattle.std.specs.Option.{option_map}
use Rattle.rel_meaning.specs.Expression.{expression_of}
use Rattle.plan_tree.specs.Conjuncts.{conjuncts}
use Rattle.seq_optimizer.specs.Estimates.{stats_at, variable_size}
use Rattle.seq_optimizer.proofs.estimates.fill_sizes.Given as goal

abbrev pub invariant-loop-var : goal.invariant-loop-var
invariant-loop-var l = record {
  len : length l.sizes ≡ length l.stats;
  filled : take l.var l.sizes ≡ map (λ v. variable_size (conjuncts (option_map expression_of l.test)) v (stats_at l.stats v).rows) (range_with_len 0 l.var);
}
