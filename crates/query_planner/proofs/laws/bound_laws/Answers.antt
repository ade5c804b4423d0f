use Rattle.seq_optimizer.proofs.BoundsSet.{bounds_set}
use Rattle.query_planner.proofs.laws.bound_laws.Goals as goal

pub returns : goal.returns
returns c = record { set = λ v k root cs. bounds_set v k root cs }
