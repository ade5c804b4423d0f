-- The expressions that operators give.
use Rattle.postquel_tokens.specs.declared.form.UnaryOp.{UnaryOp}
use Rattle.postquel_tokens.specs.declared.form.UnaryOp.TheVariants.{Not, Negate}
use Rattle.postquel_tokens.specs.declared.form.BinaryOp.{BinaryOp}
use Rattle.postquel_tokens.specs.declared.form.BinaryOp.TheVariants.{Or, And, Equal, NotEqual, Less, AtMost, More, AtLeast, Add, Sub, Mul}
use Rattle.rel_meaning.specs.declared.expr.ArithOp.TheVariants as arith_op
use Rattle.rel_meaning.specs.declared.expr.CompareOp.TheVariants as compare_op
use Rattle.rel_meaning.specs.Expression.{Expression, negate, opposite, arith, compare, both, either}

abbrev pub built_before : UnaryOp → Expression → Expression
built_before Not e = opposite e
built_before Negate e = negate e

abbrev pub built_between : BinaryOp → Expression → Expression → Expression
built_between Or a b = either a b
built_between And a b = both a b
built_between Equal a b = compare compare_op.Equal a b
built_between NotEqual a b = compare compare_op.NotEqual a b
built_between Less a b = compare compare_op.Less a b
built_between AtMost a b = compare compare_op.AtMost a b
built_between More a b = compare compare_op.More a b
built_between AtLeast a b = compare compare_op.AtLeast a b
built_between Add a b = arith arith_op.Add a b
built_between Sub a b = arith arith_op.Sub a b
built_between Mul a b = arith arith_op.Mul a b
