-- The types and bounds of operators, and why an operator may not stand at its operands.
use Rattle.std.specs.Prelude.{ℕ, ◌+◌, ◌*◌, Bool, nat_le, ◌&&◌, if◌then◌else◌, Result, Ok, Err}
use Rattle.postquel_tokens.specs.declared.fault.Spot.{Spot}
use Rattle.postquel_tokens.specs.declared.fault.What.{What}
use Rattle.postquel_tokens.specs.declared.fault.What.TheVariants.{TypeMismatch, TooWide}
use Rattle.postquel_tokens.specs.declared.fault.TextErr.{TextErr}
use Rattle.postquel_tokens.specs.declared.fault.TextErr.TheVariants.{Fault}
use Rattle.postquel_tokens.specs.declared.form.UnaryOp.{UnaryOp}
use Rattle.postquel_tokens.specs.declared.form.UnaryOp.TheVariants.{Not, Negate}
use Rattle.postquel_tokens.specs.declared.form.BinaryOp.{BinaryOp}
use Rattle.postquel_tokens.specs.declared.form.BinaryOp.TheVariants.{Or, And, Add, Sub, Mul}
use Rattle.rows.specs.declared.field.ColType.{ColType}
use Rattle.rows.specs.declared.field.ColType.TheVariants as col
use Rattle.rows.specs.declared.plain.LayoutColumn.{LayoutColumn}
use Rattle.rel_meaning.specs.Typing.{same_type}

abbrev pub at : Spot → What → TextErr
at spot what = Fault spot.line spot.col what

abbrev pub integer : ℕ → LayoutColumn
integer bound = record { col_type = col.Int4; bound = bound }

abbrev pub truth : LayoutColumn
truth = record { col_type = col.Bool; bound = 0 }

abbrev pub is : LayoutColumn → ColType → Bool
is a wanted = same_type a.col_type wanted

abbrev pub both : LayoutColumn → LayoutColumn → ColType → Bool
both a b wanted = is a wanted && is b wanted

-- what an operator's operands may be
abbrev pub may_stand_before : UnaryOp → LayoutColumn → Bool
may_stand_before Not a = is a col.Bool
may_stand_before Negate a = is a col.Int4

abbrev pub may_stand_between : BinaryOp → LayoutColumn → LayoutColumn → Bool
may_stand_between Or a b = both a b col.Bool
may_stand_between And a b = both a b col.Bool
may_stand_between Add a b = both a b col.Int4
may_stand_between Sub a b = both a b col.Int4
may_stand_between Mul a b = both a b col.Int4
may_stand_between comparison a b = same_type a.col_type b.col_type

-- the type of what an operator gives, where its operands may be those
abbrev pub before_type : UnaryOp → LayoutColumn → LayoutColumn
before_type Not a = truth
before_type Negate a = integer a.bound

abbrev pub between_type : BinaryOp → LayoutColumn → LayoutColumn → LayoutColumn
between_type Add a b = integer (a.bound + b.bound)
between_type Sub a b = integer (a.bound + b.bound)
between_type Mul a b = integer (a.bound * b.bound)
between_type other a b = truth

-- the type, or why the operator may not stand there
abbrev pub typed_at : Spot → Bool → LayoutColumn → Result LayoutColumn TextErr
typed_at spot fits c =
    if fits then (if nat_le c.bound 9223372036854775807 then Ok c else Err (at spot (TooWide c.bound)))
    else Err (at spot TypeMismatch)

abbrev pub before : UnaryOp → Spot → LayoutColumn → Result LayoutColumn TextErr
before op spot a = typed_at spot (may_stand_before op a) (before_type op a)

abbrev pub between : BinaryOp → Spot → LayoutColumn → LayoutColumn → Result LayoutColumn TextErr
between op spot a b = typed_at spot (may_stand_between op a b) (between_type op a b)
