-- The items of a page in turn.
use Rattle.std.proofs.Common.{◌≡◌, ℕ, zero, suc, ◌+◌, ◌<◌, ◌≤◌, Bool, true, false, cond, ◌&&◌, List, [], ◌∷◌, ◌++◌, append_assoc, length, map, drop, get_or, Option, Some, None, is_some, refl, sym, ap, ◌∙◌, subst, arith, slice_get}
use Rattle.std.specs.List.{AllByRecursion, filter}
use Rattle.std.specs.Option.{option_to_list}
use Rattle.std.proofs.lemmas.List.{drop_more}
use Rattle.std.proofs.lemmas.List.Elements.{filter-append}
use Rattle.std.proofs.lemmas.Option.{get_or_from_slice_get}
use Rattle.std.proofs.Math.ListN.{drop_of_length-le}
use Rattle.rows.specs.declared.value.Value.{Value}
use Rattle.rows.specs.declared.plain.Column.{Column}
use Rattle.rows.specs.declared.plain.LayoutPart.{LayoutPart}
use Rattle.rows.specs.RowFields.{row_in}
use Rattle.rel_meaning.specs.Expression.{Expression}
use Rattle.rows.specs.Layouts.{IsRowIn, column_in}
use Rattle.plan_tree.specs.Conjuncts.{all_met}
use Rattle.plan_tree.specs.Rows.{kept}
use Rattle.plan_tree.specs.Fragments.{rows_in}
use Rattle.pipeline.specs.Scans.{are_rows, passing}

-- the items before one are rows, and those that pass were taken
pub record Passed (layout : List LayoutPart) (columns : List Column) (tests : List Expression) (items : List (List ℕ)) (i : ℕ) (rows : List (List Value)) : Type 0 where
  pub all : are_rows columns (drop i items) ≡ are_rows columns items
  pub rows_are : rows ++ passing layout columns tests (drop i items) ≡ passing layout columns tests items
  pub fit : AllByRecursion (IsRowIn layout) rows

module _ (layout : List LayoutPart) (columns : List Column) (tests : List Expression) (items : List (List ℕ)) where
  pub starts : Passed layout columns tests items 0 []
  starts = record { all = refl; rows_are = refl; fit = tt }

  from : (i : ℕ) (item : List ℕ) → i < length items → slice_get items i ≡ Some item → drop i items ≡ item ∷ drop (i + 1) items
  from i item lt is = drop_more items i item lt ∙ ap (λ x. x ∷ drop (i + 1) items) (get_or_from_slice_get items i item item is)

  pub goes_on : (i : ℕ) (item : List ℕ) (there : Bool) (old new : List (List Value)) → i < length items → slice_get items i ≡ Some item → there ≡ is_some (row_in columns item) → there ≡ true →
      new ≡ old ++ kept layout tests (option_to_list (row_in columns item)) → AllByRecursion (IsRowIn layout) new → Passed layout columns tests items i old → Passed layout columns tests items (i + 1) new
  goes_on i item there old new lt is told so made fit p =
      let d = from i item lt is in
      let k : are_rows columns (drop i items) ≡ are_rows columns (drop (i + 1) items) = ap (are_rows columns) d ∙ ap (λ b. b && are_rows columns (drop (i + 1) items)) (sym told ∙ so) in
      let one = option_to_list (row_in columns item) in
      let split : passing layout columns tests (drop i items) ≡ kept layout tests one ++ passing layout columns tests (drop (i + 1) items) =
      ap (passing layout columns tests) d ∙ filter-append (λ row. all_met tests (column_in layout row)) one (rows_in columns (drop (i + 1) items)) in
      record {
        all = sym k ∙ p.all;
        rows_are = rw (made, append_assoc, ← split) p.rows_are;
        fit = fit;
      }

  pub breaks : (i : ℕ) (item : List ℕ) (there : Bool) (old : List (List Value)) → i < length items → slice_get items i ≡ Some item → there ≡ is_some (row_in columns item) → there ≡ false →
      Passed layout columns tests items i old → are_rows columns items ≡ false
  breaks i item there old lt is told other p =
      sym p.all ∙ (ap (are_rows columns) (from i item lt is) ∙ ap (λ b. b && are_rows columns (drop (i + 1) items)) (sym told ∙ other))

  past : (i : ℕ) → length items ≤ i → drop i items ≡ []
  past i le = drop_of_length-le items le

  pub ends_fine : (i : ℕ) (rows : List (List Value)) → length items ≤ i → Passed layout columns tests items i rows → are_rows columns items ≡ true
  ends_fine i rows le p = sym p.all ∙ ap (are_rows columns) (past i le)

  pub ends : (i : ℕ) (rows : List (List Value)) → length items ≤ i → Passed layout columns tests items i rows → rows ≡ passing layout columns tests items
  ends i rows le p = sym (append_nil rows) ∙ (ap (λ xs. rows ++ passing layout columns tests xs) (sym (past i le)) ∙ p.rows_are) where
    append_nil : (xs : List (List Value)) → xs ++ [] ≡ xs
    append_nil [] = refl
    append_nil (x ∷ xs) = ap (λ ys. x ∷ ys) (append_nil xs)
