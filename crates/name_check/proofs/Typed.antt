-- The type of what an operator gives is the type of its expression.
use Rattle.std.proofs.Common.{◌≡◌, ℕ, Bool, true, false, ◌&&◌, Option, Some, None, Ok, Err, nat_le, if◌then◌else◌}
use Rattle.rows.specs.declared.field.ColType.{ColType}
use Rattle.rows.specs.declared.field.ColType.TheVariants as col
use Rattle.postquel_tokens.specs.declared.fault.Spot.{Spot}
use Rattle.postquel_tokens.specs.declared.fault.What.TheVariants.{TooWide}
use Rattle.postquel_tokens.specs.declared.form.UnaryOp.{UnaryOp}
use Rattle.postquel_tokens.specs.declared.form.UnaryOp.TheVariants.{Not, Negate}
use Rattle.postquel_tokens.specs.declared.form.BinaryOp.{BinaryOp}
use Rattle.postquel_tokens.specs.declared.form.BinaryOp.TheVariants.{Or, And, Equal, NotEqual, Less, AtMost, More, AtLeast, Add, Sub, Mul}
use Rattle.rel_meaning.specs.declared.expr.ArithOp.{ArithOp}
use Rattle.rel_meaning.specs.declared.expr.ArithOp.TheVariants as arith_op
use Rattle.rows.specs.declared.plain.LayoutColumn.{LayoutColumn}
use Rattle.rel_meaning.specs.Expression.{Expression}
use Rattle.rel_meaning.specs.Typing.{type_of, same_type, bound_if, bound_of, arith_type, negate_type, truth_type}
use Rattle.name_check.specs.Types.{at, truth, integer, typed_at, before, between}
use Rattle.name_check.specs.Built.{built_before, built_between}

truth_case : (spot : Spot) (fits : Bool) (c : LayoutColumn) → typed_at spot fits truth ≡ Ok c → (if fits then Some truth_type else None) ≡ Some c
truth_case spot true c e = cc
truth_case spot false c e = cc

within : (spot : Spot) (n : ℕ) (b : Bool) (c : LayoutColumn) → (if b then Ok (integer n) else Err (at spot (TooWide n))) ≡ Ok c → (if b then Some (integer n) else None) ≡ Some c
within spot n true c e = cc
within spot n false c e = cc

negate_case : (spot : Spot) (k : ColType) (n : ℕ) (c : LayoutColumn) → typed_at spot (same_type k col.Int4) (integer n) ≡ Ok c → negate_type (bound_if k n) ≡ Some c
negate_case spot col.Int4 n c e = within spot n (nat_le n 9223372036854775807) c e
negate_case spot col.Text n c e = cc
negate_case spot col.Bool n c e = cc

arith_case : (op : ArithOp) (spot : Spot) (k l : ColType) (x y : ℕ) (c : LayoutColumn) → typed_at spot (same_type k col.Int4 && same_type l col.Int4) (integer (bound_of op x y)) ≡ Ok c → arith_type op (bound_if k x) (bound_if l y) ≡ Some c
arith_case op spot col.Int4 col.Int4 x y c e = within spot (bound_of op x y) (nat_le (bound_of op x y) 9223372036854775807) c e
arith_case op spot col.Int4 col.Text x y c e = cc
arith_case op spot col.Int4 col.Bool x y c e = cc
arith_case op spot col.Text l x y c e = cc
arith_case op spot col.Bool l x y c e = cc

pub before_typed : (columns : ℕ → ℕ → Option LayoutColumn) (op : UnaryOp) (spot : Spot) (e : Expression) (a c : LayoutColumn) → type_of e columns ≡ Some a → before op spot a ≡ Ok c → type_of (built_before op e) columns ≡ Some c
before_typed columns Not spot e a c h g = rw h (truth_case spot (same_type a.col_type col.Bool) c g)
before_typed columns Negate spot e a c h g = rw h (negate_case spot a.col_type a.bound c g)

pub between_typed : (columns : ℕ → ℕ → Option LayoutColumn) (op : BinaryOp) (spot : Spot) (e f : Expression) (a b c : LayoutColumn) → type_of e columns ≡ Some a → type_of f columns ≡ Some b → between op spot a b ≡ Ok c → type_of (built_between op e f) columns ≡ Some c
between_typed columns Or spot e f a b c h k g = rw (h, k) (truth_case spot (same_type a.col_type col.Bool && same_type b.col_type col.Bool) c g)
between_typed columns And spot e f a b c h k g = rw (h, k) (truth_case spot (same_type a.col_type col.Bool && same_type b.col_type col.Bool) c g)
between_typed columns Equal spot e f a b c h k g = rw (h, k) (truth_case spot (same_type a.col_type b.col_type) c g)
between_typed columns NotEqual spot e f a b c h k g = rw (h, k) (truth_case spot (same_type a.col_type b.col_type) c g)
between_typed columns Less spot e f a b c h k g = rw (h, k) (truth_case spot (same_type a.col_type b.col_type) c g)
between_typed columns AtMost spot e f a b c h k g = rw (h, k) (truth_case spot (same_type a.col_type b.col_type) c g)
between_typed columns More spot e f a b c h k g = rw (h, k) (truth_case spot (same_type a.col_type b.col_type) c g)
between_typed columns AtLeast spot e f a b c h k g = rw (h, k) (truth_case spot (same_type a.col_type b.col_type) c g)
between_typed columns Add spot e f a b c h k g = rw (h, k) (arith_case arith_op.Add spot a.col_type b.col_type a.bound b.bound c g)
between_typed columns Sub spot e f a b c h k g = rw (h, k) (arith_case arith_op.Sub spot a.col_type b.col_type a.bound b.bound c g)
between_typed columns Mul spot e f a b c h k g = rw (h, k) (arith_case arith_op.Mul spot a.col_type b.col_type a.bound b.bound c g)
