-- The rows of scans and joins stand for choices of rows.
use Rattle.std.proofs.Common.{◌≡◌, ℕ, Bool, true, false, cond, ◌&&◌, List, [], ◌∷◌, ◌++◌, map, is_some, refl, sym, ap, ◌∙◌, arith}
use Rattle.std.specs.List.{filter, AllByRecursion}
use Rattle.rows.specs.declared.value.Value.{Value}
use Rattle.rel_meaning.specs.Expression.{Expression}
use Rattle.rows.specs.declared.plain.LayoutColumn.{LayoutColumn}
use Rattle.rows.specs.declared.plain.LayoutPart.{LayoutPart}
use Rattle.rows.specs.Layouts.{column_in, FitsColumns, one_part}
use Rattle.rows.specs.declared.plain.KeyPair.{KeyPair}
use Rattle.plan_tree.specs.Assignments.{Assignment, bind}
use Rattle.plan_tree.specs.Conjuncts.{is_within, all_met}
use Rattle.plan_tree.specs.Keys.{all_keys_met}
use Rattle.rows.specs.Keys.{values_match, keys_match}
use Rattle.plan_tree.specs.Combining.{AreApart, part_of, has_part, over, combined}
use Rattle.plan_tree.specs.Rows.{kept, probed}
use Rattle.plan_tree.proofs.Sums.{total, only, Same, total_map, total_flat, total_filter, total_same, total_on}
use Rattle.plan_tree.proofs.Choosing.{sum_over, sum_over_append, sum_over_only, sum_over_same}
use Rattle.plan_tree.proofs.Agreement.{Agree, met_agrees}
use Rattle.plan_tree.proofs.Combined.{or_part, over_combined, over_one}

agree_over : (layout : List LayoutPart) (row : List Value) (e : Assignment) → Agree (has_part layout) (column_in layout row) (over layout row e)
agree_over layout row e var h column = ap (λ b. cond b (column_in layout row var column) (e var column)) (sym h)

-- tests of the layout's columns may be asked with any other values beside
pub met_over : (layout : List LayoutPart) (tests : List Expression) (row : List Value) (e : Assignment) → AllByRecursion (λ t. is_within (has_part layout) t ≡ true) tests →
    all_met tests (column_in layout row) ≡ all_met tests (over layout row e)
met_over layout tests row e h = met_agrees (has_part layout) (column_in layout row) (over layout row e) (agree_over layout row e) tests h

-- the keys stand in the two layouts
abbrev pub KeysIn : List LayoutPart → List LayoutPart → List KeyPair → Type 0
KeysIn first second keys = AllByRecursion (λ key. (has_part first key.build.var ≡ true) × (has_part second key.probe.var ≡ true)) keys

module _ (first second : List LayoutPart) (apart : AreApart first second) where
  other_part : (var : ℕ) → has_part second var ≡ true → has_part first var ≡ false
  other_part var h = by (has_part first var) refl where
    by : (b : Bool) → has_part first var ≡ b → b ≡ false
    by true k = let n = apart var k in let m : has_part second var ≡ false = ap is_some n in cc
    by false k = refl

  match_over : (keys : List KeyPair) → KeysIn first second keys → (a b : List Value) (e : Assignment) → keys_match first second keys a b ≡ all_keys_met keys (over first a (over second b e))
  match_over [] h a b e = refl
  match_over (key ∷ keys) h a b e = λ i.
      values_match (agree_over first a (over second b e) key.build.var h.0.0 key.build.col i)
      ((agree_over second b e key.probe.var h.0.1 key.probe.col ∙ ap (λ c. cond c (column_in first a key.probe.var key.probe.col) (over second b e key.probe.var key.probe.col)) (sym (other_part key.probe.var h.0.1))) i)
      && match_over keys h.1 a b e i

-- rows of a layout that are those choices of the variables that meet a test, in any order
pub record Stands (rows : ℕ → List (List Value)) (layout : List LayoutPart) (found : List (List Value)) (vars : List ℕ) (met : Assignment → Bool) : Type 0 where
  pub sums : (e : Assignment) (f : Assignment → ℕ) → total (λ row. f (over layout row e)) found ≡ sum_over rows vars e (λ d. only (met d) (f d))

module _ (rows : ℕ → List (List Value)) where
  pub stands_same : (layout : List LayoutPart) (xs ys : List (List Value)) (vars : List ℕ) (met : Assignment → Bool) → Same ys xs → Stands rows layout xs vars met → Stands rows layout ys vars met
  stands_same layout xs ys vars met same s = record { sums = λ e f. same (λ row. f (over layout row e)) ∙ s.sums e f }

  pub stands_none : (tests : List Expression) → AllByRecursion (λ t. is_within (λ v. false) t ≡ true) tests → Stands rows [] (kept [] tests ([] ∷ [])) [] (all_met tests)
  stands_none tests within = record {
    sums = λ e f.
        ap (λ b. total (λ row. f (over [] row e)) (cond b ([] ∷ []) [])) (met_over [] tests [] e within)
        ∙ elim (all_met tests e) as (λ b. total (λ (row : List Value). f e) (cond b ([] ∷ []) []) ≡ only b (f e)) [ true ↦ omega arith | false ↦ refl ];
  }

  pub stands_scan : (v : ℕ) (columns : List LayoutColumn) (tests : List Expression) → AllByRecursion (FitsColumns columns) (rows v) →
      AllByRecursion (λ t. is_within (has_part (one_part v columns)) t ≡ true) tests →
      Stands rows (one_part v columns) (kept (one_part v columns) tests (rows v)) (v ∷ []) (all_met tests)
  stands_scan v columns tests fits within = record {
    sums = λ e f.
        total_filter (λ row. f (over layout row e)) (λ row. all_met tests (column_in layout row)) (rows v)
        ∙ total_same _ _ (rows v) (λ row. ap (λ b. only b (f (over layout row e))) (met_over layout tests row e within))
        ∙ total_on (FitsColumns columns) _ _ (rows v) fits (λ row h. ap (λ d. only (all_met tests d) (f d)) (over_one v columns row e h));
  }
    where
      layout : List LayoutPart
      layout = one_part v columns

  module _ (layout first second : List LayoutPart) (parts : (var : ℕ) → part_of layout var ≡ or_part (part_of first var) (part_of second var)) (apart : AreApart first second)
      (keys : List KeyPair) (keys_in : KeysIn first second keys) (tests : List Expression) (within : AllByRecursion (λ t. is_within (has_part layout) t ≡ true) tests) where
    pub stands_join : (xs ys : List (List Value)) (vs ws : List ℕ) (met other : Assignment → Bool) → Stands rows first xs vs met → Stands rows second ys ws other →
        AllByRecursion (λ v. (d : Assignment) (row : List Value) → other (bind d v row) ≡ other d) vs →
        Stands rows layout (kept layout tests (probed layout first second keys xs ys)) (ws ++ vs) (λ d. other d && (met d && (all_keys_met keys d && all_met tests d)))
    stands_join xs ys vs ws met other s t free = record {
      sums = λ e f.
          let g = λ (d : Assignment). only (all_keys_met keys d) (only (all_met tests d) (f d)) in
          total_filter (λ row. f (over layout row e)) (λ row. all_met tests (column_in layout row)) (probed layout first second keys xs ys)
          ∙ total_flat (λ row. only (all_met tests (column_in layout row)) (f (over layout row e))) (λ row. map (λ b. combined layout first second b row) (filter (λ b. keys_match first second keys b row) xs)) ys
          ∙ total_same _ _ ys (λ row.
          total_map (λ r. only (all_met tests (column_in layout r)) (f (over layout r e))) (λ b. combined layout first second b row) (filter (λ b. keys_match first second keys b row) xs)
          ∙ total_filter (λ b. only (all_met tests (column_in layout (combined layout first second b row))) (f (over layout (combined layout first second b row) e))) (λ b. keys_match first second keys b row) xs
          ∙ total_same _ _ xs (λ b. one b row e f)
          ∙ s.sums (over second row e) g)
          ∙ t.sums e (λ d. sum_over rows vs d (λ c. only (met c) (g c)))
          ∙ sum_over_same rows ws e _ _ (λ d. sym (sum_over_only rows other vs d (λ c. only (met c) (g c)) free))
          ∙ sym (sum_over_append rows ws vs e (λ d. only (other d) (only (met d) (g d))))
          ∙ sum_over_same rows (ws ++ vs) e _ _ (λ d. gather (other d) (met d) (all_keys_met keys d) (all_met tests d) (f d));
    }
      where
        gather : (a b c d : Bool) (n : ℕ) → only a (only b (only c (only d n))) ≡ only (a && (b && (c && d))) n
        gather true true true d n = refl
        gather true true false d n = refl
        gather true false c d n = refl
        gather false b c d n = refl

        one : (b row : List Value) (e : Assignment) (f : Assignment → ℕ) →
            only (keys_match first second keys b row) (only (all_met tests (column_in layout (combined layout first second b row))) (f (over layout (combined layout first second b row) e)))
            ≡ only (all_keys_met keys (over first b (over second row e))) (only (all_met tests (over first b (over second row e))) (f (over first b (over second row e))))
        one b row e f = λ i. only (match_over first second apart keys keys_in b row e i)
            ((ap (λ h. only h (f (over layout (combined layout first second b row) e))) (met_over layout tests (combined layout first second b row) e within)
            ∙ ap (λ d. only (all_met tests d) (f d)) (over_combined layout first second parts b row e)) i)
