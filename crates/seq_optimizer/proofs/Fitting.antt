-- The constants of a well typed query have their values in 64 bits.
use Rattle.std.proofs.Common.{◌≡◌, ℕ, ◌<◌, ◌^◌, nat_abs, nat_le, Bool, true, false, ◌&&◌, [], Option, Some, None, refl, arith, IsSome}
use Rattle.std.specs.Prelude.{if◌then◌else◌, All}
use Rattle.std.specs.Option.{option_or}
use Rattle.std.proofs.lemmas.List.Elements.{All-nil, All-push}
use Rattle.std.proofs.lemmas.Bool.Decides.{nat_tests}
use Rattle.rows.specs.declared.plain.ColumnRef.{ColumnRef}
use Rattle.rows.specs.declared.plain.LayoutColumn.{LayoutColumn}
use Rattle.rows.specs.declared.field.ColType.TheVariants as col
use Rattle.rel_meaning.specs.declared.expr.CompareOp.{CompareOp}
use Rattle.rel_meaning.specs.Expression as ex
use Rattle.rel_meaning.specs.Expression.{Expression}
use Rattle.rel_meaning.specs.Typing.{compare_type, integer_bound, integer_within, is_truth, negate_type, truth_type, type_of}
use Rattle.plan_tree.specs.Conjuncts.{conjuncts, operands}
use Rattle.plan_tree.specs.Keys.{column_ref}
use Rattle.seq_optimizer.specs.Bounds.{Comparison, IsFitComparison, IsFitConstant, IsFitIn, IsFitNumber, IsTyped, compared, is_constant, turned}

within_some : (b : ℕ) → IsSome (negate_type (integer_bound (integer_within b))) → b < 2 ^ 63
within_some b h = by (nat_le b 9223372036854775807) refl h where
  by : (t : Bool) → nat_le b 9223372036854775807 ≡ t → IsSome (negate_type (integer_bound (if t then Some (record { col_type = col.Int4; bound = b }) else None))) → b < 2 ^ 63
  by true e k = grind (arith, nat_tests)
  by false e k = absurd cc

fit_compared : (o : CompareOp) (column : Option ColumnRef) (e : Expression) → IsFitConstant e → IsFitIn (compared o column e)
fit_compared o None e h = tt
fit_compared o (Some c) e h = by (is_constant e) where
  by : (t : Bool) → IsFitIn (if t then Some (record { column = c; op = o; constant = e }) else None)
  by true = h
  by false = tt

fit_or : (a b : Option Comparison) → IsFitIn a → IsFitIn b → IsFitIn (option_or a b)
fit_or None b h k = k
fit_or (Some c) b h k = h

sides_typed : (a b : Option LayoutColumn) → IsSome (compare_type a b) → IsSome a × IsSome b
sides_typed None b h = absurd cc
sides_typed (Some a) None h = absurd cc
sides_typed (Some a) (Some b) h = (refl, refl)

not_typed : {A : Type 0} → (t : Bool) → IsSome (if t && false then Some truth_type else None) → A
not_typed true k = absurd cc
not_typed false k = absurd cc

truths_typed : (a b : Option LayoutColumn) → IsSome (if is_truth a && is_truth b then Some truth_type else None) → IsSome a × IsSome b
truths_typed None b h = absurd cc
truths_typed (Some a) None h = not_typed (is_truth (Some a)) h
truths_typed (Some a) (Some b) h = (refl, refl)

module _ (columns : ℕ → ℕ → Option LayoutColumn) where
  fit_number : (e : Expression) → IsSome (negate_type (integer_bound (type_of e columns))) → IsFitNumber e
  fit_number (ex.number n) h = within_some (nat_abs n) h
  fit_number other h = tt

  fit_constant : (e : Expression) → IsSome (type_of e columns) → IsFitConstant e
  fit_constant (ex.negate e) h = fit_number e h
  fit_constant other h = tt

  fit_comparison : (e : Expression) → IsSome (type_of e columns) → IsFitComparison e
  fit_comparison (ex.compare o left right) h =
      let sides = sides_typed (type_of left columns) (type_of right columns) h in
      fit_or (compared o (column_ref left) right) (compared (turned o) (column_ref right) left)
      (fit_compared o (column_ref left) right (fit_constant right sides.1)) (fit_compared (turned o) (column_ref right) left (fit_constant left sides.0))
  fit_comparison other h = tt

  operands_fit : (e : Expression) → IsSome (type_of e columns) → All IsFitComparison (operands e)
  operands_fit (ex.both left right) h =
      let sides = truths_typed (type_of left columns) (type_of right columns) h in
      All-push IsFitComparison (operands left) right (operands_fit left sides.0) (fit_comparison right sides.1)
  operands_fit (ex.compare o left right) h = All-push IsFitComparison [] (ex.compare o left right) (All-nil IsFitComparison) (fit_comparison (ex.compare o left right) h)
  operands_fit (ex.number n) h = All-push IsFitComparison [] (ex.number n) (All-nil IsFitComparison) tt
  operands_fit (ex.word w) h = All-push IsFitComparison [] (ex.word w) (All-nil IsFitComparison) tt
  operands_fit (ex.truth b) h = All-push IsFitComparison [] (ex.truth b) (All-nil IsFitComparison) tt
  operands_fit (ex.column v c) h = All-push IsFitComparison [] (ex.column v c) (All-nil IsFitComparison) tt
  operands_fit (ex.negate e) h = All-push IsFitComparison [] (ex.negate e) (All-nil IsFitComparison) tt
  operands_fit (ex.opposite e) h = All-push IsFitComparison [] (ex.opposite e) (All-nil IsFitComparison) tt
  operands_fit (ex.arith o left right) h = All-push IsFitComparison [] (ex.arith o left right) (All-nil IsFitComparison) tt
  operands_fit (ex.either left right) h = All-push IsFitComparison [] (ex.either left right) (All-nil IsFitComparison) tt
  operands_fit (ex.is_null e negated) h = All-push IsFitComparison [] (ex.is_null e negated) (All-nil IsFitComparison) tt

-- each conjunct of a well typed test fits
pub conjuncts_fit : (test : Option Expression) → IsTyped test → All IsFitComparison (conjuncts test)
conjuncts_fit None h = All-nil IsFitComparison
conjuncts_fit (Some e) h = operands_fit h.0 e h.1
