use Rattle.plan_tree.proofs.InputOuts.{out_same}
use Rattle.plan_tree.proofs.InputValues.{whole_value}
use Rattle.plan_tree.proofs.ValueLists.{later_keep, own_value}
use Rattle.plan_tree.proofs.laws.input_laws.Goals as goal

pub returns : goal.returns
returns c = record {
  earlier = λ stored pieces number piece h. own_value stored pieces number piece h;
  later = λ stored pieces more number h. later_keep stored pieces more number h;
  whole = λ stored pieces number piece formed h. whole_value stored pieces formed number piece h;
  inputs = λ stored values piece position. out_same values stored position piece;
}
