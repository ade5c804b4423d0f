-- Values of expressions under a row where it lies.
use Rattle.std.specs.Prelude.{ℕ, ◌<◌, ◌==◌, IsTrue, IsSome, List, length, if◌then◌else◌, ⊤}
use Rattle.rows.specs.declared.value.Value.{Value}
use Rattle.rows.specs.declared.value.Value.TheVariants as value
use Rattle.rows.specs.declared.plain.LayoutColumn.{LayoutColumn}
use Rattle.rows.specs.Values.{column_of}
use Rattle.rel_meaning.specs.Expression as ex
use Rattle.rel_meaning.specs.Expression.{Expression}
use Rattle.rel_meaning.specs.Eval.{eval}
use Rattle.rows.specs.Layouts.{FitsColumns, column_type, one_part}
use Rattle.rel_meaning.specs.Typing.{type_of, CanNegate, CanCompute}

-- a row as the row of one variable
abbrev pub under : ℕ → List Value → ℕ → ℕ → Value
under var row v column = if var == v then column_of row column else value.Null

-- the row has columns under which the expression is well typed and bounded
pub record IsTyped (var : ℕ) (row : List Value) (e : Expression) : Type 0 where
  pub columns : List LayoutColumn
  pub fits : FitsColumns columns row
  pub typed : IsSome (type_of e (column_type (one_part var columns)))

-- each column is there, and what is computed has 64 bits
abbrev pub IsSafe : ℕ → List Value → Expression → Type 0
IsSafe var row (ex.number n) = ⊤
IsSafe var row (ex.word w) = ⊤
IsSafe var row (ex.truth b) = ⊤
IsSafe var row (ex.column v column) = IsTrue (var == v) × (column < length row)
IsSafe var row (ex.negate e) = IsSafe var row e × CanNegate (eval e (under var row))
IsSafe var row (ex.opposite e) = IsSafe var row e
IsSafe var row (ex.arith op left right) = IsSafe var row left × IsSafe var row right × CanCompute op (eval left (under var row)) (eval right (under var row))
IsSafe var row (ex.compare op left right) = IsSafe var row left × IsSafe var row right
IsSafe var row (ex.both left right) = IsSafe var row left × IsSafe var row right
IsSafe var row (ex.either left right) = IsSafe var row left × IsSafe var row right
IsSafe var row (ex.is_null e negated) = IsSafe var row e
