-- How tightly operators bind.
use Rattle.std.specs.Prelude.{Option, Some, None}
use Rattle.postquel.specs.declared.class.Class.{Class}
use Rattle.postquel.specs.declared.class.Class.TheVariants as class
use Rattle.postquel_tokens.specs.declared.name.Key.TheVariants as key
use Rattle.postquel_tokens.specs.declared.token.Sign.{Sign}
use Rattle.postquel_tokens.specs.declared.token.Sign.TheVariants as sign
use Rattle.postquel_tokens.specs.declared.form.UnaryOp.{UnaryOp}
use Rattle.postquel_tokens.specs.declared.form.UnaryOp.TheVariants as unary
use Rattle.postquel_tokens.specs.declared.form.BinaryOp.{BinaryOp}
use Rattle.postquel_tokens.specs.declared.form.BinaryOp.TheVariants as binary
use Rattle.postquel.specs.declared.level.Level.{Level}
use Rattle.postquel.specs.declared.level.Level.TheVariants as level

abbrev pub next : Level → Level
next level.Or = level.And
next level.And = level.Not
next level.Not = level.Comparison
next level.Comparison = level.Sum
next level.Sum = level.Product
next level.Product = level.Sign
next level.Sign = level.Atom
next level.Atom = level.Atom

abbrev pub comparison : Sign → Option BinaryOp
comparison sign.Equal = Some binary.Equal
comparison sign.NotEqual = Some binary.NotEqual
comparison sign.Less = Some binary.Less
comparison sign.AtMost = Some binary.AtMost
comparison sign.More = Some binary.More
comparison sign.AtLeast = Some binary.AtLeast
comparison _ = None

-- the operator between two operands that a token is at a level
abbrev pub between : Level → Class → Option BinaryOp
between level.Or (class.Key key.Or) = Some binary.Or
between level.And (class.Key key.And) = Some binary.And
between level.Comparison (class.Mark s) = comparison s
between level.Sum (class.Mark sign.Plus) = Some binary.Add
between level.Sum (class.Mark sign.Minus) = Some binary.Sub
between level.Product (class.Mark sign.Times) = Some binary.Mul
between _ _ = None

-- the operator before an operand that a token is at a level
abbrev pub before : Level → Class → Option UnaryOp
before level.Not (class.Key key.Not) = Some unary.Not
before level.Sign (class.Mark sign.Minus) = Some unary.Negate
before _ _ = None
