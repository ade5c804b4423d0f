-- The bounds that conjuncts set to a column.
use Rattle.std.specs.Prelude.{◌<◌, ◌^◌, ℕ, neg_ℤ, nat_abs, ⊤, Bool, true, false, ◌==◌, ◌&&◌, List, Option, Some, None, if◌then◌else◌, IfSome, IsSome}
use Rattle.std.specs.List.{filter_map}
use Rattle.std.specs.Option.{option_map, option_and_then, option_or}
use Rattle.rows.specs.declared.value.Value.{Value}
use Rattle.rows.specs.declared.value.Value.TheVariants as value
use Rattle.rows.specs.declared.plain.ColumnRef.{ColumnRef}
use Rattle.rows.specs.declared.plain.LayoutColumn.{LayoutColumn}
use Rattle.rows.specs.declared.plain.Bound.{Bound}
use Rattle.rows.specs.declared.plain.BoundOp.{BoundOp}
use Rattle.rows.specs.declared.plain.BoundOp.TheVariants as bound
use Rattle.rel_meaning.specs.Expression as ex
use Rattle.rel_meaning.specs.Expression.{Expression}
use Rattle.rel_meaning.specs.Typing.{type_of}
use Rattle.rel_meaning.specs.declared.expr.CompareOp.{CompareOp}
use Rattle.rel_meaning.specs.declared.expr.CompareOp.TheVariants as op
use Rattle.plan_tree.specs.Keys.{column_ref}

abbrev pub is_number : Expression → Bool
is_number (ex.number n) = true
is_number other = false

-- a number, with a sign or not, a text or a truth value
abbrev pub is_constant : Expression → Bool
is_constant (ex.number n) = true
is_constant (ex.word w) = true
is_constant (ex.truth b) = true
is_constant (ex.negate e) = is_number e
is_constant other = false

abbrev pub signed_value : Expression → Value
signed_value (ex.number n) = value.Number (neg_ℤ n)
signed_value other = value.Null

-- the value of a constant
abbrev pub constant_value : Expression → Value
constant_value (ex.number n) = value.Number n
constant_value (ex.word w) = value.Word w
constant_value (ex.truth b) = value.Truth b
constant_value (ex.negate e) = signed_value e
constant_value other = value.Null

-- the operator that says the same of two operands that change places
abbrev pub turned : CompareOp → CompareOp
turned op.Equal = op.Equal
turned op.NotEqual = op.NotEqual
turned op.Less = op.More
turned op.AtMost = op.AtLeast
turned op.More = op.Less
turned op.AtLeast = op.AtMost

-- a column compared with a constant, with the column on the left of the operator
pub record Comparison : Type 0 where
  pub column : ColumnRef
  pub op : CompareOp
  pub constant : Expression

abbrev pub compared : CompareOp → Option ColumnRef → Expression → Option Comparison
compared o None c = None
compared o (Some column) c = if is_constant c then Some (record { column = column; op = o; constant = c }) else None

-- the comparison of a column with a constant that a conjunct is, if it is one, in either order
abbrev pub comparison_of : Expression → Option Comparison
comparison_of (ex.compare o left right) = option_or (compared o (column_ref left) right) (compared (turned o) (column_ref right) left)
comparison_of other = None

abbrev pub bound_op : CompareOp → Option BoundOp
bound_op op.Equal = Some bound.Equal
bound_op op.NotEqual = None
bound_op op.Less = Some bound.Less
bound_op op.AtMost = Some bound.AtMost
bound_op op.More = Some bound.More
bound_op op.AtLeast = Some bound.AtLeast

abbrev pub bound_by : Expression → BoundOp → Bound
bound_by constant o = record { op = o; value = constant_value constant }

abbrev pub bound_if : ℕ → ℕ → Comparison → Option Bound
bound_if v k c = if c.column.var == v && c.column.col == k then option_map (bound_by c.constant) (bound_op c.op) else None

-- the bound that a conjunct sets to column k of variable v, if it sets one
abbrev pub bound_of : ℕ → ℕ → Expression → Option Bound
bound_of v k e = option_and_then (bound_if v k) (comparison_of e)

-- the bounds that conjuncts set to the column, in their order
abbrev pub bounds_of : ℕ → ℕ → List Expression → List Bound
bounds_of v k cs = filter_map (bound_of v k) cs

abbrev pub is_equal_op : CompareOp → Bool
is_equal_op op.Equal = true
is_equal_op other = false

abbrev pub is_equality : Option Comparison → Bool
is_equality None = false
is_equality (Some c) = is_equal_op c.op

-- a bound by `=` on some column
abbrev pub is_fixing : Expression → Bool
is_fixing e = is_equality (comparison_of e)

-- the test of a query, if it has one, is well typed for some types of its columns, as in a query that was resolved
abbrev pub IsTyped : Option Expression → Type 0
IsTyped test = (columns : ℕ → ℕ → Option LayoutColumn) × IfSome test (λ e. IsSome (type_of e columns))

-- a number that has its negative in 64 bits
abbrev pub IsFitNumber : Expression → Type 0
IsFitNumber (ex.number n) = nat_abs n < 2 ^ 63
IsFitNumber other = ⊤

abbrev pub IsFitConstant : Expression → Type 0
IsFitConstant (ex.negate e) = IsFitNumber e
IsFitConstant other = ⊤

abbrev pub IsFitIn : Option Comparison → Type 0
IsFitIn None = ⊤
IsFitIn (Some c) = IsFitConstant c.constant

-- the constant of a comparison has its value in 64 bits
abbrev pub IsFitComparison : Expression → Type 0
IsFitComparison e = IsFitIn (comparison_of e)
