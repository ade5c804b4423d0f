use Rattle.std.proofs.Common.{rules, ◌<◌, arith, ℕ, length}
use Rattle.std.specs.Option.{option_map}
use Rattle.rel_meaning.specs.Expression.{expression_of}
use Rattle.plan_tree.specs.Conjuncts.{conjuncts}
use Rattle.seq_optimizer.specs.Estimates.{stats_at, variable_size}
use Rattle.seq_optimizer.proofs.Sizes.{filled_more}
use Rattle.seq_optimizer.proofs.estimates.fill_sizes.Goals as goal

pub loop-var-preserved : goal.loop-var-preserved
loop-var-preserved c = record {
  len = search rules;
  filled = filled_more (λ (v : ℕ). variable_size (conjuncts (option_map expression_of c.args.test.now)) v (stats_at c.args.stats.now v).rows) c.loop-var.sizes c.loop-var.var c.variable_size.result (let lt : c.loop-var.var < length c.loop-var.sizes = omega (arith, c.loop-var.invariant.len) in lt) c.loop-var.invariant.filled c.variable_size.ensures;
}
