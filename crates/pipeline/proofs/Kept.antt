-- Rows that pass tests.
use Rattle.std.proofs.Common.{◌≡◌, ℕ, Bool, true, false, cond, eqb, List, [], ◌∷◌, length, map, refl, sym, ap, ◌∙◌, arith, true≢false}
use Rattle.std.proofs.lemmas.Bool.{ne_eqb}
use Rattle.rows.specs.declared.value.Value.{Value}
use Rattle.rows.specs.declared.plain.LayoutPart.{LayoutPart}
use Rattle.rows.specs.Layouts.{column_in}
use Rattle.rel_meaning.specs.declared.expr.Expr.{Expr}
use Rattle.rel_meaning.specs.Expression.{Expression, expression_of}
use Rattle.plan_tree.specs.Conjuncts.{all_met}
use Rattle.plan_tree.specs.Rows.{kept}

all_kept : (layout : List LayoutPart) (rows : List (List Value)) → rows ≡ kept layout [] rows
all_kept layout [] = refl
all_kept layout (row ∷ rows) = ap (λ xs. row ∷ xs) (all_kept layout rows)

-- without tests every row passes
pub kept_without : (layout : List LayoutPart) (tests : List Expr) (rows : List (List Value)) (b : Bool) → b ≡ eqb (length tests) 0 → b ≡ true → rows ≡ kept layout (map expression_of tests) rows
kept_without layout [] rows b e h = all_kept layout rows
kept_without layout (t ∷ ts) rows b e h = absurd (true≢false (sym h ∙ e ∙ ne_eqb (length (t ∷ ts)) 0 (λ z. omega (arith, z))))

-- a row alone, where it passes, and where it doesn't
pub kept_one : (layout : List LayoutPart) (tests : List Expression) (row : List Value) (b : Bool) → b ≡ all_met tests (column_in layout row) → b ≡ true → kept layout tests (row ∷ []) ≡ row ∷ []
kept_one layout tests row b e h = ap (λ c. cond c (row ∷ []) []) (sym e ∙ h)

pub kept_none : (layout : List LayoutPart) (tests : List Expression) (row : List Value) (b : Bool) → b ≡ all_met tests (column_in layout row) → b ≡ false → kept layout tests (row ∷ []) ≡ []
kept_none layout tests row b e h = ap (λ c. cond c (row ∷ []) []) (sym e ∙ h)
