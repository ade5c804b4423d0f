use Rattle.seq_optimizer.proofs.OnePlan.{one_price, one_tree}
use Rattle.seq_optimizer.proofs.laws.one_plan.Goals as goal

pub returns : goal.returns
returns c = record {
  tree = λ q stats m t u price other p r. one_tree q stats m t u price other p r;
  price = λ q stats m t u price other p r. one_price q stats m t u price other p r;
}
