use Rattle.std.proofs.Common.{arith}
use Rattle.seq_optimizer.specs.Sets.{in_set}
use Rattle.seq_optimizer.proofs.Sizes.{below_more}
use Rattle.seq_optimizer.proofs.estimates.factors_of.Goals as goal

pub loop-var-preserved : goal.loop-var-preserved
loop-var-preserved c = record {
  factors = rw (below_more (in_set c.args.set) c.args.sizes.now c.loop-var.var) (rw (← c.is_in_set.ensures) (c.with_if-factors.ensures.factors _ c.loop-var.invariant.factors));
  count = omega arith;
}
