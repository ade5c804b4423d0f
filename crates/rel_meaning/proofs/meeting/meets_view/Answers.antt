use Rattle.rel_meaning.specs.Expression.{expression_of}
use Rattle.rel_meaning.proofs.Safe.{safe_under}
use Rattle.rel_meaning.proofs.meeting.meets_view.Goals as goal

pub is_met-requires : goal.is_met-requires
is_met-requires c = safe_under c.args.var c.args.row.now (expression_of c.args.expr.now) c.requires
