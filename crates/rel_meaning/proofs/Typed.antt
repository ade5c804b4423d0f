-- A well typed expression has a value of its type.
use Rattle.std.proofs.Common.{◌≡◌, ℕ, ◌≤◌, suc, zero, ℤ, nat_abs, Bool, true, false, cond, List, [], ◌∷◌, length, Option, Some, None, refl, sym, ap, subst, arith, IsSome, is_some, ◌&&◌, mul-le-mul, nat_le, slice_get}
use Rattle.std.specs.Prelude.{⊤}
use Rattle.std.specs.Option.{option_and_then}
use Rattle.rows.specs.declared.value.Value.{Value}
use Rattle.rows.specs.declared.value.Value.TheVariants as value
use Rattle.rows.specs.declared.field.ColType.{ColType}
use Rattle.rows.specs.declared.field.ColType.TheVariants as col
use Rattle.rows.specs.Values.{column_of}
use Rattle.rel_meaning.specs.declared.expr.ArithOp.{ArithOp}
use Rattle.rel_meaning.specs.declared.expr.ArithOp.TheVariants.{Add, Sub, Mul}
use Rattle.rel_meaning.specs.declared.expr.CompareOp.{CompareOp}
use Rattle.rel_meaning.specs.Expression as ex
use Rattle.rel_meaning.specs.Expression.{Expression}
use Rattle.rows.specs.declared.plain.LayoutColumn.{LayoutColumn}
use Rattle.rows.specs.declared.plain.LayoutPart.{LayoutPart}
use Rattle.rel_meaning.specs.Eval.{eval, number_of, negate_value, arith_values, compare_values, not_value, and_values, or_values}
use Rattle.rows.specs.Layouts.{HasType, FitsColumns, all_columns, IsRowIn, column_place, column_type, column_in, value_at}
use Rattle.rel_meaning.specs.Typing.{type_of, integer_within, integer_bound, bound_if, bound_of, negate_type, arith_type, compare_type, same_type, is_truth, text_type, truth_type, CanNegate, CanCompute}
use Rattle.std.proofs.lemmas.Bool.Decides.{nat_tests}
use Rattle.rel_meaning.proofs.Sizes.{size_neg, size_add, size_sub, size_mul}

pub fits_length : (cs : List LayoutColumn) (row : List Value) → FitsColumns cs row → length row ≡ length cs
fits_length [] [] h = refl
fits_length [] (v ∷ vs) h = elim h [ ]
fits_length (c ∷ cs) [] h = elim h [ ]
fits_length (c ∷ cs) (v ∷ vs) h = ap suc (fits_length cs vs h.1)

fits_at : (cs : List LayoutColumn) (row : List Value) → FitsColumns cs row → (place : ℕ) (c : LayoutColumn) → slice_get cs place ≡ Some c → HasType (column_of row place) c
fits_at [] row h place c e = cc
fits_at (c ∷ cs) [] h place d e = elim h [ ]
fits_at (c ∷ cs) (v ∷ vs) h zero d e = subst (λ x. HasType v x) (let i : c ≡ d = cc in i) h.0
fits_at (c ∷ cs) (v ∷ vs) h (suc place) d e = fits_at cs vs h.1 place d e

-- a column of a row of the layout has its type
pub column_typed : (layout : List LayoutPart) (row : List Value) → IsRowIn layout row → (var column : ℕ) (c : LayoutColumn) → column_type layout var column ≡ Some c → HasType (column_in layout row var column) c
column_typed layout row h var column c e = by (column_place layout var column) e where
  by : (place : Option ℕ) → option_and_then (λ p. slice_get (all_columns layout) p) place ≡ Some c → HasType (value_at row place) c
  by None e = cc
  by (Some p) e = fits_at (all_columns layout) row h p c e

-- null, or an integer of at most this size
abbrev pub IsSized : Value → ℕ → Type 0
IsSized value.Null b = ⊤
IsSized (value.Number n) b = nat_abs n ≤ b
IsSized (value.Word w) b = ⊥
IsSized (value.Truth t) b = ⊥

bound_some : (k : ColType) (x b : ℕ) → bound_if k x ≡ Some b → (k ≡ col.Int4) × (x ≡ b)
bound_some col.Int4 x b e = (refl, cc)
bound_some col.Text x b e = cc
bound_some col.Bool x b e = cc

sized_as : (v : Value) (c : LayoutColumn) (b : ℕ) → (c.col_type ≡ col.Int4) × (c.bound ≡ b) → HasType v c → IsSized v b
sized_as value.Null c b k h = tt
sized_as (value.Number n) c b k h = omega (arith, h.1, k.1)
sized_as (value.Word w) c b k h = cc (h, k.0)
sized_as (value.Truth t) c b k h = cc (h, k.0)

sized : (v : Value) (t : Option LayoutColumn) (b : ℕ) → integer_bound t ≡ Some b → ((c : LayoutColumn) → t ≡ Some c → HasType v c) → IsSized v b
sized v None b e h = cc
sized v (Some c) b e h = sized_as v c b (bound_some c.col_type c.bound b e) (h c refl)

within_type : (b : ℕ) (c : LayoutColumn) → integer_within b ≡ Some c → (c.col_type ≡ col.Int4) × (c.bound ≡ b) × (b ≤ 9223372036854775807)
within_type b c e = by (nat_le b 9223372036854775807) refl e where
  by : (t : Bool) → nat_le b 9223372036854775807 ≡ t → cond t (Some (record { col_type = col.Int4; bound = b })) None ≡ Some c → (c.col_type ≡ col.Int4) × (c.bound ≡ b) × (b ≤ 9223372036854775807)
  by true test e =
      let same : record { col_type = col.Int4; bound = b } ≡ c = cc in
      (ap (λ d. d.col_type) (sym same), ap (λ d. d.bound) (sym same), grind (arith, nat_tests))
  by false test e = cc

truth_if : (t : Bool) (c : LayoutColumn) → cond t (Some truth_type) None ≡ Some c → c.col_type ≡ col.Bool
truth_if true c e = let same : truth_type ≡ c = cc in ap (λ d. d.col_type) (sym same)
truth_if false c e = cc

compare_truth : (s t : Option LayoutColumn) (c : LayoutColumn) → compare_type s t ≡ Some c → c.col_type ≡ col.Bool
compare_truth None t c e = cc
compare_truth (Some a) None c e = cc
compare_truth (Some a) (Some b) c e = truth_if (same_type a.col_type b.col_type) c e

compared_truth : (op : CompareOp) (a b : Value) (c : LayoutColumn) → c.col_type ≡ col.Bool → HasType (compare_values op a b) c
compared_truth op value.Null b c h = tt
compared_truth op (value.Number n) value.Null c h = tt
compared_truth op (value.Number n) (value.Number m) c h = h
compared_truth op (value.Number n) (value.Word m) c h = h
compared_truth op (value.Number n) (value.Truth m) c h = h
compared_truth op (value.Word n) value.Null c h = tt
compared_truth op (value.Word n) (value.Number m) c h = h
compared_truth op (value.Word n) (value.Word m) c h = h
compared_truth op (value.Word n) (value.Truth m) c h = h
compared_truth op (value.Truth n) value.Null c h = tt
compared_truth op (value.Truth n) (value.Number m) c h = h
compared_truth op (value.Truth n) (value.Word m) c h = h
compared_truth op (value.Truth n) (value.Truth m) c h = h

not_truth : (a : Value) (c : LayoutColumn) → c.col_type ≡ col.Bool → HasType (not_value a) c
not_truth value.Null c h = tt
not_truth (value.Number n) c h = tt
not_truth (value.Word n) c h = tt
not_truth (value.Truth n) c h = h

and_truth : (a b : Value) (c : LayoutColumn) → c.col_type ≡ col.Bool → HasType (and_values a b) c
and_truth (value.Truth false) b c h = h
and_truth (value.Truth true) (value.Truth false) c h = h
and_truth (value.Truth true) (value.Truth true) c h = h
and_truth (value.Truth true) value.Null c h = tt
and_truth (value.Truth true) (value.Number n) c h = tt
and_truth (value.Truth true) (value.Word n) c h = tt
and_truth value.Null (value.Truth false) c h = h
and_truth value.Null (value.Truth true) c h = tt
and_truth value.Null value.Null c h = tt
and_truth value.Null (value.Number n) c h = tt
and_truth value.Null (value.Word n) c h = tt
and_truth (value.Number m) (value.Truth false) c h = h
and_truth (value.Number m) (value.Truth true) c h = tt
and_truth (value.Number m) value.Null c h = tt
and_truth (value.Number m) (value.Number n) c h = tt
and_truth (value.Number m) (value.Word n) c h = tt
and_truth (value.Word m) (value.Truth false) c h = h
and_truth (value.Word m) (value.Truth true) c h = tt
and_truth (value.Word m) value.Null c h = tt
and_truth (value.Word m) (value.Number n) c h = tt
and_truth (value.Word m) (value.Word n) c h = tt

or_truth : (a b : Value) (c : LayoutColumn) → c.col_type ≡ col.Bool → HasType (or_values a b) c
or_truth (value.Truth true) b c h = h
or_truth (value.Truth false) (value.Truth true) c h = h
or_truth (value.Truth false) (value.Truth false) c h = h
or_truth (value.Truth false) value.Null c h = tt
or_truth (value.Truth false) (value.Number n) c h = tt
or_truth (value.Truth false) (value.Word n) c h = tt
or_truth value.Null (value.Truth true) c h = h
or_truth value.Null (value.Truth false) c h = tt
or_truth value.Null value.Null c h = tt
or_truth value.Null (value.Number n) c h = tt
or_truth value.Null (value.Word n) c h = tt
or_truth (value.Number m) (value.Truth true) c h = h
or_truth (value.Number m) (value.Truth false) c h = tt
or_truth (value.Number m) value.Null c h = tt
or_truth (value.Number m) (value.Number n) c h = tt
or_truth (value.Number m) (value.Word n) c h = tt
or_truth (value.Word m) (value.Truth true) c h = h
or_truth (value.Word m) (value.Truth false) c h = tt
or_truth (value.Word m) value.Null c h = tt
or_truth (value.Word m) (value.Number n) c h = tt
or_truth (value.Word m) (value.Word n) c h = tt

negated_sized : (v : Value) (b : ℕ) → IsSized v b → IsSized (negate_value v) b
negated_sized value.Null b h = tt
negated_sized (value.Number n) b h = omega (arith, h, size_neg n)
negated_sized (value.Word w) b h = elim h [ ]
negated_sized (value.Truth w) b h = elim h [ ]

number_size : (op : ArithOp) (m n : ℤ) (a b : ℕ) → nat_abs m ≤ a → nat_abs n ≤ b → nat_abs (number_of op m n) ≤ bound_of op a b
number_size Add m n a b h k = omega (arith, h, k, size_add m n)
number_size Sub m n a b h k = omega (arith, h, k, size_sub m n)
number_size Mul m n a b h k = omega (arith, size_mul m n, mul-le-mul h k)

computed_sized : (op : ArithOp) (v w : Value) (a b : ℕ) → IsSized v a → IsSized w b → IsSized (arith_values op v w) (bound_of op a b)
computed_sized op (value.Number m) (value.Number n) a b h k = number_size op m n a b h k
computed_sized op (value.Number m) value.Null a b h k = tt
computed_sized op (value.Number m) (value.Word n) a b h k = elim k [ ]
computed_sized op (value.Number m) (value.Truth n) a b h k = elim k [ ]
computed_sized op value.Null w a b h k = tt
computed_sized op (value.Word m) w a b h k = elim h [ ]
computed_sized op (value.Truth m) w a b h k = elim h [ ]

sized_typed : (v : Value) (b : ℕ) (c : LayoutColumn) → (c.col_type ≡ col.Int4) × (c.bound ≡ b) → IsSized v b → HasType v c
sized_typed value.Null b c k h = tt
sized_typed (value.Number n) b c k h = (k.0, omega (arith, h, k.1))
sized_typed (value.Word w) b c k h = elim h [ ]
sized_typed (value.Truth w) b c k h = elim h [ ]

negate_typed : (v : Value) (t : Option LayoutColumn) → ((c : LayoutColumn) → t ≡ Some c → HasType v c) → (c : LayoutColumn) → negate_type (integer_bound t) ≡ Some c →
    HasType (negate_value v) c × CanNegate v
negate_typed v t told c e = by (integer_bound t) refl e where
  can : (v : Value) (b : ℕ) → IsSized v b → b ≤ 9223372036854775807 → CanNegate v
  can value.Null b h k = tt
  can (value.Number n) b h k = omega (arith, h, k)
  can (value.Word w) b h k = tt
  can (value.Truth w) b h k = tt

  by : (b : Option ℕ) → integer_bound t ≡ b → negate_type b ≡ Some c → HasType (negate_value v) c × CanNegate v
  by None i e = cc
  by (Some b) i e =
      let w = within_type b c e in
      let s = sized v t b i told in
      (sized_typed (negate_value v) b c (w.0, w.1) (negated_sized v b s), can v b s w.2)

arith_typed : (op : ArithOp) (v w : Value) (s t : Option LayoutColumn) → ((c : LayoutColumn) → s ≡ Some c → HasType v c) → ((c : LayoutColumn) → t ≡ Some c → HasType w c) →
    (c : LayoutColumn) → arith_type op (integer_bound s) (integer_bound t) ≡ Some c → HasType (arith_values op v w) c × CanCompute op v w
arith_typed op v w s t first second c e = by (integer_bound s) (integer_bound t) refl refl e where
  can : (v w : Value) (b : ℕ) → IsSized (arith_values op v w) b → b ≤ 9223372036854775807 → CanCompute op v w
  can (value.Number m) (value.Number n) b h k = omega (arith, h, k)
  can (value.Number m) value.Null b h k = tt
  can (value.Number m) (value.Word n) b h k = tt
  can (value.Number m) (value.Truth n) b h k = tt
  can value.Null w b h k = tt
  can (value.Word m) w b h k = tt
  can (value.Truth m) w b h k = tt

  by : (a b : Option ℕ) → integer_bound s ≡ a → integer_bound t ≡ b → arith_type op a b ≡ Some c → HasType (arith_values op v w) c × CanCompute op v w
  by None b i j e = cc
  by (Some a) None i j e = cc
  by (Some a) (Some b) i j e =
      let k = within_type (bound_of op a b) c e in
      let z = computed_sized op v w a b (sized v s a i first) (sized w t b j second) in
      (sized_typed (arith_values op v w) (bound_of op a b) c (k.0, k.1) z, can v w (bound_of op a b) z k.2)

module _ (columns : ℕ → ℕ → Option LayoutColumn) (row : ℕ → ℕ → Value) (fits : (var column : ℕ) (c : LayoutColumn) → columns var column ≡ Some c → HasType (row var column) c) where
  pub eval_typed : (e : Expression) (c : LayoutColumn) → type_of e columns ≡ Some c → HasType (eval e row) c
  eval_typed (ex.number n) c h = let w = within_type (nat_abs n) c h in (w.0, omega (arith, w.1))
  eval_typed (ex.word w) c h = let same : text_type ≡ c = cc in ap (λ d. d.col_type) (sym same)
  eval_typed (ex.truth b) c h = let same : truth_type ≡ c = cc in ap (λ d. d.col_type) (sym same)
  eval_typed (ex.column var column) c h = fits var column c h
  eval_typed (ex.negate e) c h = (negate_typed (eval e row) (type_of e columns) (eval_typed e) c h).0
  eval_typed (ex.opposite e) c h = not_truth (eval e row) c (truth_if (is_truth (type_of e columns)) c h)
  eval_typed (ex.arith op left right) c h = (arith_typed op (eval left row) (eval right row) (type_of left columns) (type_of right columns) (eval_typed left) (eval_typed right) c h).0
  eval_typed (ex.compare op left right) c h = compared_truth op (eval left row) (eval right row) c (compare_truth (type_of left columns) (type_of right columns) c h)
  eval_typed (ex.both left right) c h = and_truth (eval left row) (eval right row) c (truth_if (is_truth (type_of left columns) && is_truth (type_of right columns)) c h)
  eval_typed (ex.either left right) c h = or_truth (eval left row) (eval right row) c (truth_if (is_truth (type_of left columns) && is_truth (type_of right columns)) c h)
  eval_typed (ex.is_null e negated) c h = truth_if (is_some (type_of e columns)) c h

some_of : {X : Type 0} (o : Option X) → IsSome o → (x : X) × (o ≡ Some x)
some_of None h = cc h
some_of (Some x) h = (x, refl)

-- what `evaluate` negates and computes with, it may
module _ (layout : List LayoutPart) (row : List Value) (fits : IsRowIn layout row) where
  pub can_negate : (e : Expression) → IsSome (negate_type (integer_bound (type_of e (column_type layout)))) → CanNegate (eval e (column_in layout row))
  can_negate e h = let k = some_of _ h in
      (negate_typed (eval e (column_in layout row)) (type_of e (column_type layout)) (eval_typed (column_type layout) (column_in layout row) (column_typed layout row fits) e) k.0 k.1).1

  pub can_compute : (op : ArithOp) (d e : Expression) → IsSome (arith_type op (integer_bound (type_of d (column_type layout))) (integer_bound (type_of e (column_type layout)))) →
      CanCompute op (eval d (column_in layout row)) (eval e (column_in layout row))
  can_compute op d e h = let k = some_of _ h in
      let typed = eval_typed (column_type layout) (column_in layout row) (column_typed layout row fits) in
      (arith_typed op (eval d (column_in layout row)) (eval e (column_in layout row)) (type_of d (column_type layout)) (type_of e (column_type layout)) (typed d) (typed e) k.0 k.1).1
