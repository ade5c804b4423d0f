-- Conjuncts that are equalities of two columns, and the key pairs that they make.
use Rattle.std.specs.Prelude.{ℕ, Bool, true, false, ◌&&◌, List, [], ◌∷◌, Option, Some, None, if◌then◌else◌}
use Rattle.rows.specs.declared.value.Value.{Value}
use Rattle.rows.specs.declared.plain.ColumnRef.{ColumnRef}
use Rattle.rows.specs.declared.plain.KeyPair.{KeyPair}
use Rattle.rows.specs.Keys.{values_match}
use Rattle.rel_meaning.specs.Expression as ex
use Rattle.rel_meaning.specs.Expression.{Expression}
use Rattle.rel_meaning.specs.declared.expr.CompareOp.{CompareOp}
use Rattle.rel_meaning.specs.declared.expr.CompareOp.TheVariants as op
use Rattle.plan_tree.specs.Assignments.{Assignment}

-- the two columns of a conjunct `a = b`
pub record Equality : Type 0 where
  pub left : ColumnRef
  pub right : ColumnRef

abbrev pub column_ref : Expression → Option ColumnRef
column_ref (ex.column var col) = Some (record { var = var; col = col })
column_ref other = None

abbrev pub two_columns : Option ColumnRef → Option ColumnRef → Option Equality
two_columns None d = None
two_columns (Some c) None = None
two_columns (Some c) (Some d) = Some (record { left = c; right = d })

abbrev pub if_equal : CompareOp → Option Equality → Option Equality
if_equal op.Equal columns = columns
if_equal other columns = None

-- the equality of two columns that a conjunct is, if it is one
abbrev pub equality_of : Expression → Option Equality
equality_of (ex.compare o left right) = if_equal o (two_columns (column_ref left) (column_ref right))
equality_of other = None

-- the key pair that two columns make where the one is of the first side and the other of the second, in either order
abbrev pub pair_of : (ℕ → Bool) → (ℕ → Bool) → ColumnRef → ColumnRef → Option KeyPair
pair_of first second c d =
    if first c.var && second d.var then Some (record { build = c; probe = d })
    else if first d.var && second c.var then Some (record { build = d; probe = c })
    else None

abbrev pub pair_if : (ℕ → Bool) → (ℕ → Bool) → Option Equality → Option KeyPair
pair_if first second None = None
pair_if first second (Some e) = pair_of first second e.left e.right

-- the key pair that a conjunct is at a join of two sides, if it is one
abbrev pub key_of : (ℕ → Bool) → (ℕ → Bool) → Expression → Option KeyPair
key_of first second c = pair_if first second (equality_of c)

abbrev pub with_key : Option KeyPair → List KeyPair → List KeyPair
with_key None keys = keys
with_key (Some key) keys = key ∷ keys

-- all key pairs of a join, in the order of the conjuncts
abbrev pub keys_of : (ℕ → Bool) → (ℕ → Bool) → List Expression → List KeyPair
keys_of first second [] = []
keys_of first second (c ∷ cs) = with_key (key_of first second c) (keys_of first second cs)

abbrev pub no_key : Option KeyPair → Bool
no_key None = true
no_key (Some key) = false

abbrev pub is_key_met : Assignment → KeyPair → Bool
is_key_met e key = values_match (e key.build.var key.build.col) (e key.probe.var key.probe.col)

abbrev pub all_keys_met : List KeyPair → Assignment → Bool
all_keys_met [] e = true
all_keys_met (key ∷ keys) e = is_key_met e key && all_keys_met keys e
