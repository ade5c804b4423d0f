use Rattle.rel_meaning.specs.Expression.{expression_of}
use Rattle.rel_meaning.proofs.Safe.{safe_under}
use Rattle.rel_meaning.proofs.view.evaluate_view.Goals as goal

pub value_of-requires : goal.value_of-requires
value_of-requires c = safe_under c.args.var c.args.row.now (expression_of c.args.expr.now) c.requires
