-- Combined rows by where their values stand.
use Rattle.std.proofs.Common.{◌≡◌, ℕ, ◌+◌, ◌<◌, Bool, true, false, cond, List, [], ◌∷◌, ◌++◌, append_assoc, drop, length, map, refl, sym, ap, ◌∙◌}
use Rattle.std.proofs.lemmas.List.{drop_more, map-append}
use Rattle.rows.specs.declared.value.Value.{Value}
use Rattle.rows.specs.declared.field.ColType.TheVariants as col
use Rattle.rows.specs.declared.plain.LayoutColumn.{LayoutColumn}
use Rattle.rows.specs.declared.plain.LayoutPart.{LayoutPart}
use Rattle.rows.specs.Layouts.{column_in, column_place, value_at}
use Rattle.plan_tree.specs.Combining.{combined, has_part, over, row_in, values_of}
use Rattle.pipeline.specs.declared.combining.Taken.{Taken}
use Rattle.pipeline.specs.Taking.{taken_columns, taken_from, taken_part, taken_value}

module _ (first second : List LayoutPart) (a b : List Value) where
  value_is : (var n : ℕ) → taken_value (taken_from first second var n) a b ≡ over first a (column_in second b) var n
  value_is var n = elim (has_part first var) as (λ h. value_at (cond h a b) (cond h (column_place first var n) (column_place second var n)) ≡ cond h (column_in first a var n) (column_in second b var n)) [
    | true ↦ refl
    | false ↦ refl
  ]

  part_is : (var n : ℕ) (cs : List LayoutColumn) → map (λ t. taken_value t a b) (taken_part first second var n cs) ≡ values_of (over first a (column_in second b)) var n cs
  part_is var n [] = refl
  part_is var n (c ∷ cs) = λ i. value_is var n i ∷ part_is var (n + 1) cs i

  -- the values that stand there are those of the combined row
  pub combined_is : (layout : List LayoutPart) → map (λ t. taken_value t a b) (taken_columns layout first second) ≡ combined layout first second a b
  combined_is [] = refl
  combined_is (part ∷ parts) =
      map-append (λ t. taken_value t a b) (taken_part first second part.var 0 part.columns) (taken_columns parts first second)
      ∙ (λ i. part_is part.var 0 part.columns i ++ combined_is parts i)

-- one column more
pub taken_more : (first second : List LayoutPart) (var n : ℕ) (cs : List LayoutColumn) (old new whole : List Taken) (t : Taken) → n < length cs → t ≡ taken_from first second var n → new ≡ old ++ t ∷ [] → old ++ taken_part first second var n (drop n cs) ≡ whole →
    new ++ taken_part first second var (n + 1) (drop (n + 1) cs) ≡ whole
taken_more first second var n cs old new whole t lt is put told =
    let k : taken_part first second var n (drop n cs) ≡ taken_from first second var n ∷ taken_part first second var (n + 1) (drop (n + 1) cs) = ap (taken_part first second var n) (drop_more cs n (record { col_type = col.Int4; bound = 0 }) lt) in
    rw (put, append_assoc, is, ← k) told
