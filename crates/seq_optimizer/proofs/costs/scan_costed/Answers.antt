use Rattle.std.proofs.Common.{◌∙◌, ap, ℕ}
use Rattle.seq_optimizer.specs.Sets.{in_set}
use Rattle.seq_optimizer.proofs.Sets.{one_set}
use Rattle.seq_optimizer.proofs.costs.scan_costed.Goals as goal

pub returns : goal.returns
returns c cs tests = record {
  cost = c.scan_cost.ensures;
  set = ap (λ (n : ℕ). in_set n) c.set_of.ensures ∙ one_set c.args.var;
}
