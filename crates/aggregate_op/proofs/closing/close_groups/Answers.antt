use Rattle.std.proofs.Common.{◌∙◌}
use Rattle.std.proofs.lemmas.Result.{IfOk-weaker}
use Rattle.aggregate_op.proofs.ClosedGroups.{partial_closed}
use Rattle.aggregate_op.proofs.closing.close_groups.Goals as goal

pub returns : goal.returns
returns c = IfOk-weaker c.closed_groups.result _ _ (λ closed e rows p. e ∙ partial_closed c.args.fold.now rows c.args.groups.now p) c.closed_groups.ensures
