-- A well typed expression can be computed under a row of its columns.
use Rattle.std.proofs.Common.{◌≡◌, ℕ, ◌<◌, Bool, true, false, cond, ◌==◌, ◌&&◌, nat_lt, List, [], ◌∷◌, length, Option, Some, None, refl, sym, ap, subst, arith, IsSome, is_some, slice_get}
use Rattle.std.specs.Prelude.{IsTrue}
use Rattle.std.specs.Option.{option_and_then}
use Rattle.std.proofs.lemmas.Bool.Decides.{nat_tests}
use Rattle.std.proofs.lemmas.List.{get_or_past}
use Rattle.rows.specs.declared.value.Value.{Value}
use Rattle.rows.specs.declared.value.Value.TheVariants as value
use Rattle.rows.specs.declared.plain.LayoutColumn.{LayoutColumn}
use Rattle.rows.specs.Values.{column_of}
use Rattle.rel_meaning.specs.declared.expr.ArithOp.{ArithOp}
use Rattle.rel_meaning.specs.Expression as ex
use Rattle.rel_meaning.specs.Expression.{Expression}
use Rattle.rel_meaning.specs.Eval.{eval}
use Rattle.rows.specs.Layouts.{FitsColumns, IsRowIn, all_columns, column_in, column_type, one_part, value_at}
use Rattle.rel_meaning.specs.Typing.{type_of, integer_bound, negate_type, arith_type, compare_type, is_truth, truth_type, CanNegate, CanCompute}
use Rattle.rel_meaning.proofs.Typed.{fits_length, can_negate, can_compute}
use Rattle.rel_meaning.specs.Under.{IsSafe, IsTyped, under}

module _ (var : ℕ) (columns : List LayoutColumn) (row : List Value) where
  at_place : length row ≡ length columns → (v column : ℕ) → (here there : Bool) → (var == v) ≡ here → nat_lt column (length columns) ≡ there →
      value_at row (cond here (cond there (Some column) None) None) ≡ cond here (column_of row column) value.Null
  at_place len v column true true h k = refl
  at_place len v column true false h k = sym (get_or_past row column value.Null (grind (arith, nat_tests)))
  at_place len v column false there h k = refl

  -- the row of the only variable of a layout
  pub column_under : FitsColumns columns row → (v column : ℕ) → column_in (one_part var columns) row v column ≡ under var row v column
  column_under fits v column = at_place (fits_length columns row fits) v column (var == v) (nat_lt column (length columns)) refl refl

  pub row_under : FitsColumns columns row → column_in (one_part var columns) row ≡ under var row
  row_under fits = λ i v column. column_under fits v column i

  whole_row : FitsColumns columns row → IsRowIn (one_part var columns) row
  whole_row fits = subst (λ cs. FitsColumns cs row) (appended columns) fits where
    appended : (cs : List LayoutColumn) → cs ≡ all_columns (one_part var cs)
    appended [] = refl
    appended (c ∷ cs) = ap (λ ds. c ∷ ds) (appended cs)

  column_there : length row ≡ length columns → (v column : ℕ) → (here there : Bool) → (var == v) ≡ here → nat_lt column (length columns) ≡ there →
      IsSome (option_and_then (λ place. slice_get (all_columns (one_part var columns)) place) (cond here (cond there (Some column) None) None)) → IsTrue (var == v) × (column < length row)
  column_there len v column true true h k some = (h, grind (arith, nat_tests))
  column_there len v column true false h k some = cc some
  column_there len v column false there h k some = cc some

  negated_there : (t : Option LayoutColumn) → IsSome (negate_type (integer_bound t)) → IsSome t
  negated_there None some = cc some
  negated_there (Some c) some = refl

  first_there : (op : ArithOp) (s t : Option LayoutColumn) → IsSome (arith_type op (integer_bound s) (integer_bound t)) → IsSome s
  first_there op None t some = cc some
  first_there op (Some c) t some = refl

  second_there : (op : ArithOp) (a : Option ℕ) (t : Option LayoutColumn) → IsSome (arith_type op a (integer_bound t)) → IsSome t
  second_there op None None some = cc some
  second_there op (Some a) None some = cc some
  second_there op a (Some c) some = refl

  first_compared : (s t : Option LayoutColumn) → IsSome (compare_type s t) → IsSome s
  first_compared None t some = cc some
  first_compared (Some c) t some = refl

  second_compared : (s t : Option LayoutColumn) → IsSome (compare_type s t) → IsSome t
  second_compared None None some = cc some
  second_compared (Some c) None some = cc some
  second_compared s (Some c) some = refl

  truth_there : (t : Option LayoutColumn) → is_truth t ≡ true → IsSome t
  truth_there None h = cc
  truth_there (Some c) h = refl

  if_there : (b : Bool) → IsSome (cond b (Some truth_type) None) → b ≡ true
  if_there true some = refl
  if_there false some = cc some

  both_there : (a b : Bool) → IsSome (cond (a && b) (Some truth_type) None) → (a ≡ true) × (b ≡ true)
  both_there true true some = (refl, refl)
  both_there true false some = cc some
  both_there false b some = cc some

  module _ (fits : FitsColumns columns row) where
    safe : (e : Expression) → IsSome (type_of e (column_type (one_part var columns))) → IsSafe var row e
    safe (ex.number n) some = tt
    safe (ex.word w) some = tt
    safe (ex.truth b) some = tt
    safe (ex.column v column) some = column_there (fits_length columns row fits) v column (var == v) (nat_lt column (length columns)) refl refl some
    safe (ex.negate e) some =
        (safe e (negated_there (type_of e (column_type (one_part var columns))) some), subst (λ r. CanNegate (eval e r)) (row_under fits) (can_negate (one_part var columns) row (whole_row fits) e some))
    safe (ex.opposite e) some = safe e (truth_there _ (if_there _ some))
    safe (ex.arith op left right) some = (
      safe left (first_there op (type_of left (column_type (one_part var columns))) (type_of right (column_type (one_part var columns))) some),
      safe right (second_there op (integer_bound (type_of left (column_type (one_part var columns)))) (type_of right (column_type (one_part var columns))) some),
      subst (λ r. CanCompute op (eval left r) (eval right r)) (row_under fits) (can_compute (one_part var columns) row (whole_row fits) op left right some),
    )
    safe (ex.compare op left right) some = (
      safe left (first_compared (type_of left (column_type (one_part var columns))) (type_of right (column_type (one_part var columns))) some),
      safe right (second_compared (type_of left (column_type (one_part var columns))) (type_of right (column_type (one_part var columns))) some),
    )
    safe (ex.both left right) some =
        let b = both_there (is_truth (type_of left (column_type (one_part var columns)))) (is_truth (type_of right (column_type (one_part var columns)))) some in
        (safe left (truth_there _ b.0), safe right (truth_there _ b.1))
    safe (ex.either left right) some =
        let b = both_there (is_truth (type_of left (column_type (one_part var columns)))) (is_truth (type_of right (column_type (one_part var columns)))) some in
        (safe left (truth_there _ b.0), safe right (truth_there _ b.1))
    safe (ex.is_null e negated) some = safe e (if_there (is_some (type_of e (column_type (one_part var columns)))) some)

-- a well typed expression can be computed under the row
pub safe_under : (var : ℕ) (row : List Value) (e : Expression) → IsTyped var row e → IsSafe var row e
safe_under var row e h = safe var h.columns row h.fits e h.typed
