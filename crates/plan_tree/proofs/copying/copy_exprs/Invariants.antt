use Rattle.std.proofs.Common.{◌≡◌, map, take}
use Rattle.rel_meaning.specs.Expression.{expression_of}
use Rattle.plan_tree.proofs.copying.copy_exprs.Given as goal

abbrev pub invariant-loop-expr : goal.invariant-loop-expr
invariant-loop-expr l = map expression_of l.copies.items ≡ map expression_of (take l.expr-index l.expr-items)
