-- How many columns two layouts have together.
use Rattle.std.proofs.Common.{◌≡◌, ℕ, ◌+◌, Bool, true, false, cond, nat_lt, List, [], ◌∷◌, ◌++◌, length, refl, sym, ap, ◌∙◌, arith, length-append}
use Rattle.rows.specs.declared.plain.LayoutPart.{LayoutPart}
use Rattle.rows.specs.Layouts.{all_columns}
use Rattle.plan_tree.specs.Combining.{insert_part, merged}

insert_width : (p : LayoutPart) (ps : List LayoutPart) → length (all_columns (insert_part p ps)) ≡ length p.columns + length (all_columns ps)
insert_width p [] = length-append p.columns []
insert_width p (q ∷ qs) = by (insert_width p qs) (nat_lt p.var q.var) where
  by : length (all_columns (insert_part p qs)) ≡ length p.columns + length (all_columns qs) → (b : Bool) →
      length (all_columns (cond b (p ∷ q ∷ qs) (q ∷ insert_part p qs))) ≡ length p.columns + length (all_columns (q ∷ qs))
  by rest true = length-append p.columns (all_columns (q ∷ qs))
  by rest false = omega (arith, rest, length-append q.columns (all_columns (insert_part p qs)), length-append q.columns (all_columns qs))

pub merged_width : (first second : List LayoutPart) → length (all_columns (merged first second)) ≡ length (all_columns first) + length (all_columns second)
merged_width [] second = omega arith
merged_width (p ∷ ps) second = omega (arith, insert_width p (merged ps second), merged_width ps second, length-append p.columns (all_columns ps))
