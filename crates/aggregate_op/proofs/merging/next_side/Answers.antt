use Rattle.aggregate_op.proofs.NextRows.{only_left}
use Rattle.aggregate_op.proofs.merging.next_side.Goals as goal

pub returns-in-Some-None : goal.returns-in-Some-None
returns-in-Some-None c = only_left c.args.fold.now c.args.left.now c.args.right.now _ _ c.in-Some-None.ensures.cases c.in-Some-None.ensures'.cases
