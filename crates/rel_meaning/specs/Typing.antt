-- The type and the bound of an expression.
use Rattle.std.specs.Prelude.{ℕ, ◌+◌, ◌*◌, ◌^◌, nat_abs, Bool, true, false, nat_le, ◌&&◌, is_some, ⊤, ◌<◌, if◌then◌else◌, Option, Some, None}
use Rattle.rows.specs.declared.value.Value.{Value}
use Rattle.rows.specs.declared.value.Value.TheVariants as value
use Rattle.rel_meaning.specs.Eval.{number_of}
use Rattle.rows.specs.declared.field.ColType.{ColType}
use Rattle.rows.specs.declared.field.ColType.TheVariants as col
use Rattle.rel_meaning.specs.declared.expr.ArithOp.{ArithOp}
use Rattle.rel_meaning.specs.declared.expr.ArithOp.TheVariants.{Add, Sub, Mul}
use Rattle.rel_meaning.specs.Expression as ex
use Rattle.rel_meaning.specs.Expression.{Expression}
use Rattle.rows.specs.declared.plain.LayoutColumn.{LayoutColumn}

abbrev pub text_type : LayoutColumn
text_type = record { col_type = col.Text; bound = 0 }

abbrev pub truth_type : LayoutColumn
truth_type = record { col_type = col.Bool; bound = 0 }

-- an integer whose bound is at most 2^63 - 1
abbrev pub integer_within : ℕ → Option LayoutColumn
integer_within bound = if nat_le bound 9223372036854775807 then Some (record { col_type = col.Int4; bound = bound }) else None

abbrev pub bound_of : ArithOp → ℕ → ℕ → ℕ
bound_of Add a b = a + b
bound_of Sub a b = a + b
bound_of Mul a b = a * b

-- the bound of an integer's type
abbrev pub bound_if : ColType → ℕ → Option ℕ
bound_if col.Int4 bound = Some bound
bound_if col.Text bound = None
bound_if col.Bool bound = None

abbrev pub integer_bound : Option LayoutColumn → Option ℕ
integer_bound None = None
integer_bound (Some c) = bound_if c.col_type c.bound

abbrev pub negate_type : Option ℕ → Option LayoutColumn
negate_type None = None
negate_type (Some a) = integer_within a

abbrev pub arith_type : ArithOp → Option ℕ → Option ℕ → Option LayoutColumn
arith_type op (Some a) (Some b) = integer_within (bound_of op a b)
arith_type op None b = None
arith_type op (Some a) None = None

abbrev pub same_type : ColType → ColType → Bool
same_type col.Int4 col.Int4 = true
same_type col.Text col.Text = true
same_type col.Bool col.Bool = true
same_type a b = false

abbrev pub compare_type : Option LayoutColumn → Option LayoutColumn → Option LayoutColumn
compare_type (Some a) (Some b) = if same_type a.col_type b.col_type then Some truth_type else None
compare_type None b = None
compare_type (Some a) None = None

abbrev pub is_truth : Option LayoutColumn → Bool
is_truth None = false
is_truth (Some c) = same_type c.col_type col.Bool

-- the type of an expression, where it is well typed and bounded
abbrev pub type_of : Expression → (ℕ → ℕ → Option LayoutColumn) → Option LayoutColumn
type_of (ex.number n) columns = integer_within (nat_abs n)
type_of (ex.word w) columns = Some text_type
type_of (ex.truth b) columns = Some truth_type
type_of (ex.column var col) columns = columns var col
type_of (ex.negate e) columns = negate_type (integer_bound (type_of e columns))
type_of (ex.opposite e) columns = if is_truth (type_of e columns) then Some truth_type else None
type_of (ex.arith op left right) columns = arith_type op (integer_bound (type_of left columns)) (integer_bound (type_of right columns))
type_of (ex.compare op left right) columns = compare_type (type_of left columns) (type_of right columns)
type_of (ex.both left right) columns = if is_truth (type_of left columns) && is_truth (type_of right columns) then Some truth_type else None
type_of (ex.either left right) columns = if is_truth (type_of left columns) && is_truth (type_of right columns) then Some truth_type else None
type_of (ex.is_null e negated) columns = if is_some (type_of e columns) then Some truth_type else None

-- the value may be negated, and two values computed with, in 64 bits
abbrev pub CanNegate : Value → Type 0
CanNegate (value.Number n) = nat_abs n < 2 ^ 63
CanNegate other = ⊤

abbrev pub CanCompute : ArithOp → Value → Value → Type 0
CanCompute op (value.Number a) (value.Number b) = nat_abs (number_of op a b) < 2 ^ 63
CanCompute op a b = ⊤
