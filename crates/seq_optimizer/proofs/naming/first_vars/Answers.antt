use Rattle.std.proofs.Common.{◌∙◌, ap, ℕ, ◌-◌}
use Rattle.seq_optimizer.specs.Sets.{in_set}
use Rattle.seq_optimizer.proofs.Sets.{first_set}
use Rattle.seq_optimizer.proofs.naming.first_vars.Goals as goal

pub returns-clause-set : goal.returns-clause-set
returns-clause-set c = ap (λ (n : ℕ). in_set (n - 1)) c.set_of.ensures ∙ first_set c.args.count
