-- An index scan keeps the rows that a heap scan keeps.
use Rattle.std.proofs.Common.{◌≡◌, ℕ, ◌<◌, Bool, true, false, not, List, [], ◌∷◌, length, refl, sym, ap, ◌∙◌, arith}
use Rattle.std.specs.List.{filter, AllByRecursion}
use Rattle.rows.specs.declared.value.Value.{Value}
use Rattle.rows.specs.declared.value.Value.TheVariants as value
use Rattle.rows.specs.declared.plain.Bound.{Bound}
use Rattle.rows.specs.declared.plain.LayoutPart.{LayoutPart}
use Rattle.rows.specs.Values.{row_cmp, value_cmp, is_null}
use Rattle.rel_meaning.specs.Expression.{Expression}
use Rattle.rel_meaning.specs.declared.expr.CompareOp.{CompareOp}
use Rattle.rel_meaning.specs.Eval.{compare_values, holds}
use Rattle.rows.specs.Layouts.{column_in}
use Rattle.rel_meaning.specs.Meaning.{is_true}
use Rattle.plan_tree.specs.Conjuncts.{all_met}
use Rattle.plan_tree.specs.Rows.{kept}
use Rattle.plan_tree.specs.TreeLaws.{SameRows}
use Rattle.plan_tree.specs.Intervals.{AreEntries, Sets, compare_op, has_key, interval_rows, key_in}
use Rattle.plan_tree.proofs.Bags.{same_occurrences}
use Rattle.plan_tree.proofs.Sums.{only, Same, total_filter, total_same}
use Rattle.plan_tree.proofs.IndexScan.{interval_keeps}
use Rattle.plan_tree.proofs.TreeAnswers.{sums_of}

-- a comparison that is true is of a value that isn't null
compared : (o : CompareOp) (a b : Value) → is_true (compare_values o a b) ≡ true → (is_null a ≡ false) × (holds o (value_cmp a b) ≡ true)
compared o value.Null b h = cc
compared o (value.Number n) value.Null h = cc
compared o (value.Number n) (value.Number m) h = (refl, h)
compared o (value.Number n) (value.Word m) h = (refl, h)
compared o (value.Number n) (value.Truth m) h = (refl, h)
compared o (value.Word n) value.Null h = cc
compared o (value.Word n) (value.Number m) h = (refl, h)
compared o (value.Word n) (value.Word m) h = (refl, h)
compared o (value.Word n) (value.Truth m) h = (refl, h)
compared o (value.Truth n) value.Null h = cc
compared o (value.Truth n) (value.Number m) h = (refl, h)
compared o (value.Truth n) (value.Word m) h = (refl, h)
compared o (value.Truth n) (value.Truth m) h = (refl, h)

module _ (layout : List LayoutPart) (v k : ℕ) (tests : List Expression) where
  key_there : (b : Bound) → Sets tests v k b → (row : List Value) → all_met tests (column_in layout row) ≡ true → is_null (key_in layout v k row) ≡ false
  key_there b sets row h = (compared (compare_op b.op) (key_in layout v k row) b.value (sets (column_in layout row) h)).0

  meet : (bs : List Bound) → AllByRecursion (Sets tests v k) bs → (rows : List (List Value)) →
      AllByRecursion (λ (b : Bound). (row : List Value) → all_met tests (column_in layout row) ≡ true → holds (compare_op b.op) (value_cmp (key_in layout v k row) b.value) ≡ true) bs
  meet [] all rows = tt
  meet (b ∷ bs) all rows = ((λ row h. (compared (compare_op b.op) (key_in layout v k row) b.value (all.0 (column_in layout row) h)).1), meet bs all.1 rows)

  drop_test : (b : Bound) → Sets tests v k b → (f : List Value → ℕ) (row : List Value) (c : Bool) → all_met tests (column_in layout row) ≡ c →
      only (has_key layout v k row) (only c (f row)) ≡ only c (f row)
  drop_test b sets f row true h = ap (λ n. only (not n) (f row)) (key_there b sets row h)
  drop_test b sets f row false h = by (has_key layout v k row) where
    by : (c : Bool) → only c 0 ≡ 0
    by true = refl
    by false = refl

  sums : (b : Bound) (bs : List Bound) (rows entries : List (List Value)) → AllByRecursion (Sets tests v k) (b ∷ bs) → AreEntries layout v k rows entries →
      Same (kept layout tests (interval_rows layout v k (b ∷ bs) entries)) (kept layout tests rows)
  sums b bs rows entries all are f =
      interval_keeps (key_in layout v k) (λ row. all_met tests (column_in layout row)) entries are.ascend (b ∷ bs) (meet (b ∷ bs) all entries) f
      ∙ total_filter f (λ row. all_met tests (column_in layout row)) entries
      ∙ sums_of entries (filter (has_key layout v k) rows) are.same (λ row. only (all_met tests (column_in layout row)) (f row))
      ∙ total_filter (λ row. only (all_met tests (column_in layout row)) (f row)) (has_key layout v k) rows
      ∙ total_same _ _ rows (λ row. drop_test b all.0 f row (all_met tests (column_in layout row)) refl)
      ∙ sym (total_filter f (λ row. all_met tests (column_in layout row)) rows)

  -- the rows of the interval's entries that pass the tests are those of all rows, where at least one bound is set
  pub index_reads : (bounds : List Bound) (rows entries : List (List Value)) → 0 < length bounds → AllByRecursion (Sets tests v k) bounds → AreEntries layout v k rows entries →
      SameRows (kept layout tests (interval_rows layout v k bounds entries)) (kept layout tests rows)
  index_reads [] rows entries some all are = absurd (omega arith)
  index_reads (b ∷ bs) rows entries some all are = same_occurrences (row_cmp []) _ _ (sums b bs rows entries all are)
