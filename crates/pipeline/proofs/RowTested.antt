-- Tests and targets in turn.
use Rattle.std.proofs.Common.{◌≡◌, ℕ, zero, suc, ◌+◌, ◌<◌, Bool, true, false, ◌&&◌, List, [], ◌∷◌, length, map, drop, get_or, Option, Some, None, refl, sym, ap, ◌∙◌, subst, arith}
use Rattle.std.specs.Prelude.{IsSome}
use Rattle.std.proofs.lemmas.List.{drop_more}
use Rattle.rows.specs.declared.plain.LayoutColumn.{LayoutColumn}
use Rattle.rows.specs.declared.plain.LayoutPart.{LayoutPart}
use Rattle.rel_meaning.specs.declared.expr.Expr.{Expr}
use Rattle.rel_meaning.specs.declared.query.Target.{Target}
use Rattle.rel_meaning.specs.Expression.{Expression, expression_of, output_of}
use Rattle.rows.specs.Layouts.{column_type}
use Rattle.rel_meaning.specs.Typing.{type_of, is_truth}
use Rattle.plan_tree.specs.Assignments.{Assignment}
use Rattle.plan_tree.specs.Conjuncts.{all_met, is_met}
use Rattle.plan_tree.specs.WellFormed.{AreTargets, AreTests}

truth_there : (t : Option LayoutColumn) → is_truth t ≡ true → IsSome t
truth_there None h = cc
truth_there (Some c) h = refl

-- each of the tests is typed
pub test_typed : (layout : List LayoutPart) (tests : List Expr) (i : ℕ) (t : Expr) → AreTests layout (map expression_of tests) → i < length tests → t ≡ get_or tests i t → IsSome (type_of (expression_of t) (column_type layout))
test_typed layout [] i t h lt e = absurd (omega (arith, lt))
test_typed layout (x ∷ xs) zero t h lt e = subst (λ y. IsSome (type_of (expression_of y) (column_type layout))) (sym e) (truth_there _ h.0)
test_typed layout (x ∷ xs) (suc i) t h lt e = test_typed layout xs i t h.1 (omega (arith, lt)) e

pub target_typed : (layout : List LayoutPart) (targets : List Target) (i : ℕ) (t : Target) → AreTargets layout (map output_of targets) → i < length targets → t ≡ get_or targets i t → IsSome (type_of (expression_of t.expr) (column_type layout))
target_typed layout [] i t h lt e = absurd (omega (arith, lt))
target_typed layout (x ∷ xs) zero t h lt e = subst (λ (y : Target). IsSome (type_of (expression_of y.expr) (column_type layout))) (sym e) h.0
target_typed layout (x ∷ xs) (suc i) t h lt e = target_typed layout xs i t h.1 (omega (arith, lt)) e

-- the tests from one on
pub met_from : (tests : List Expr) (i : ℕ) (t : Expr) (e : Assignment) → i < length tests → t ≡ get_or tests i t →
    all_met (map expression_of (drop i tests)) e ≡ (is_met e (expression_of t) && all_met (map expression_of (drop (i + 1) tests)) e)
met_from tests i t e lt is =
    ap (λ ts. all_met (map expression_of ts) e) (drop_more tests i t lt ∙ ap (λ x. x ∷ drop (i + 1) tests) (sym is))
