-- Tests in turn.
use Rattle.std.proofs.Common.{◌≡◌, ℕ, zero, suc, ◌+◌, ◌<◌, Bool, true, false, cond, ◌&&◌, List, [], ◌∷◌, length, map, drop, get_or, Option, Some, None, refl, sym, ap, ◌∙◌, subst, arith}
use Rattle.std.specs.Prelude.{IsSome}
use Rattle.std.proofs.lemmas.List.{drop_more}
use Rattle.rows.specs.declared.value.Value.{Value}
use Rattle.rows.specs.declared.plain.Column.{Column}
use Rattle.rows.specs.declared.plain.LayoutColumn.{LayoutColumn}
use Rattle.rows.specs.declared.plain.LayoutPart.{LayoutPart}
use Rattle.rel_meaning.specs.declared.expr.Expr.{Expr}
use Rattle.rel_meaning.specs.Expression.{Expression, expression_of}
use Rattle.rel_meaning.specs.Eval.{eval}
use Rattle.rows.specs.Layouts.{FitsColumns, column_in, column_type}
use Rattle.rel_meaning.specs.Meaning.{is_true, layout_column}
use Rattle.rel_meaning.specs.Typing.{type_of, is_truth}
use Rattle.plan_tree.specs.Assignments.{Assignment}
use Rattle.plan_tree.specs.Conjuncts.{all_met, is_met}
use Rattle.plan_tree.specs.WellFormed.{AreTests}
use Rattle.rel_meaning.specs.Under.{IsTyped, under}
use Rattle.rel_meaning.proofs.Safe.{row_under}
use Rattle.pipeline.specs.Scans.{scanned}

truth_there : (t : Option LayoutColumn) → is_truth t ≡ true → IsSome t
truth_there None h = cc
truth_there (Some c) h = refl

-- each of the tests is typed
test_typed : (layout : List LayoutPart) (tests : List Expr) (i : ℕ) (t : Expr) → AreTests layout (map expression_of tests) → i < length tests → t ≡ get_or tests i t → IsSome (type_of (expression_of t) (column_type layout))
test_typed layout [] i t h lt e = absurd (omega (arith, lt))
test_typed layout (x ∷ xs) zero t h lt e = subst (λ y. IsSome (type_of (expression_of y) (column_type layout))) (sym e) (truth_there _ h.0)
test_typed layout (x ∷ xs) (suc i) t h lt e = test_typed layout xs i t h.1 (omega (arith, lt)) e

pub test_can : (var : ℕ) (columns : List Column) (row : List Value) (tests : List Expr) (i : ℕ) (t : Expr) → FitsColumns (map layout_column columns) row → AreTests (scanned var columns) (map expression_of tests) → i < length tests → t ≡ get_or tests i t →
    IsTyped var row (expression_of t)
test_can var columns row tests i t fits h lt e = record { columns = map layout_column columns; fits = fits; typed = test_typed (scanned var columns) tests i t h lt e }

-- the tests from one on
pub met_from : (tests : List Expr) (i : ℕ) (t : Expr) (e : Assignment) → i < length tests → t ≡ get_or tests i t →
    all_met (map expression_of (drop i tests)) e ≡ (is_met e (expression_of t) && all_met (map expression_of (drop (i + 1) tests)) e)
met_from tests i t e lt is =
    ap (λ ts. all_met (map expression_of ts) e) (drop_more tests i t lt ∙ ap (λ x. x ∷ drop (i + 1) tests) (sym is))

-- a value under the row of the only variable
pub met_under : (var : ℕ) (columns : List Column) (row : List Value) (t : Expression) (b : Bool) → FitsColumns (map layout_column columns) row → b ≡ is_true (eval t (under var row)) →
    b ≡ is_met (column_in (scanned var columns) row) t
met_under var columns row t b fits k = k ∙ (ap (λ r. is_true (eval t r)) (sym (row_under var (map layout_column columns) row fits)))

pub met_more : (var : ℕ) (columns : List Column) (row : List Value) (tests : List Expr) (i : ℕ) (t : Expr) (b w : Bool) → FitsColumns (map layout_column columns) row → i < length tests → t ≡ get_or tests i t →
    b ≡ is_true (eval (expression_of t) (under var row)) → b ≡ true → all_met (map expression_of (drop i tests)) (column_in (scanned var columns) row) ≡ w →
    all_met (map expression_of (drop (i + 1) tests)) (column_in (scanned var columns) row) ≡ w
met_more var columns row tests i t b w fits lt is k so told =
    let m : is_met (column_in (scanned var columns) row) (expression_of t) ≡ true = sym (met_under var columns row (expression_of t) b fits k) ∙ so in
    sym (met_from tests i t (column_in (scanned var columns) row) lt is ∙ ap (λ a. a && all_met (map expression_of (drop (i + 1) tests)) (column_in (scanned var columns) row)) m) ∙ told

pub met_not : (var : ℕ) (columns : List Column) (row : List Value) (tests : List Expr) (i : ℕ) (t : Expr) (b w : Bool) → FitsColumns (map layout_column columns) row → i < length tests → t ≡ get_or tests i t →
    b ≡ is_true (eval (expression_of t) (under var row)) → b ≡ false → all_met (map expression_of (drop i tests)) (column_in (scanned var columns) row) ≡ w →
    false ≡ w
met_not var columns row tests i t b w fits lt is k other told =
    let m : is_met (column_in (scanned var columns) row) (expression_of t) ≡ false = sym (met_under var columns row (expression_of t) b fits k) ∙ other in
    sym (met_from tests i t (column_in (scanned var columns) row) lt is ∙ ap (λ a. a && all_met (map expression_of (drop (i + 1) tests)) (column_in (scanned var columns) row)) m) ∙ told
