use Rattle.plan_tree.proofs.EndParts.{value_is, value_rows}
use Rattle.plan_tree.proofs.laws.end_laws.Goals as goal

pub returns : goal.returns
returns c = record { value = λ stored values piece. value_is stored values piece; rows = λ stored values piece. value_rows stored values piece }
