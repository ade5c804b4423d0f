use Rattle.std.proofs.Common.{◌≤◌}
use Rattle.seq_optimizer.specs.Estimates.{sizes_below}
use Rattle.seq_optimizer.specs.Factors.{IsFactors}
use Rattle.seq_optimizer.specs.Sets.{in_set}
use Rattle.seq_optimizer.proofs.estimates.factors_of.Given as goal

abbrev pub invariant-loop-var : goal.invariant-loop-var
invariant-loop-var l = record {
  factors : IsFactors (sizes_below (in_set l.set) l.sizes l.var) l.factors;
  count : l.factors.count ≤ l.var;
}
