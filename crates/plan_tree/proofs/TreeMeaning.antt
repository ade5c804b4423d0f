-- Each tree of a query means the query.
use Rattle.std.proofs.Common.{◌≡◌, ℕ, ◌+◌, ◌<◌, ◌≤◌, lit≤, suc, Bool, true, false, ◌==◌, nat_lt, List, [], ◌∷◌, length, map, refl, sym, ap, ◌∙◌, subst, arith}
use Rattle.std.specs.List.{filter, AllByRecursion}
use Rattle.std.proofs.lemmas.Bool.Decides.{nat_tests}
use Rattle.std.specs.Cmp.{nat_cmp_total}
use Rattle.std.specs.Ordering.{nat_cmp, is_eq}
use Rattle.std.proofs.lemmas.Map.Lookups.{exact_unsigned}
use Rattle.lists.specs.Arranged.{one_if, occurrences, sort_by}
use Rattle.lists.proofs.Arranging.{bag_fixes, sort_ascends, occurrences-sort}
use Rattle.rows.specs.declared.value.Value.{Value}
use Rattle.rows.specs.Values.{arranged}
use Rattle.rel_meaning.specs.Expression.{Question}
use Rattle.rel_meaning.specs.declared.query.Table.{Table}
use Rattle.rows.specs.declared.plain.LayoutColumn.{LayoutColumn}
use Rattle.rows.specs.declared.plain.LayoutPart.{LayoutPart}
use Rattle.rows.specs.Layouts.{column_in, FitsColumns}
use Rattle.rel_meaning.specs.Meaning.{combos, value_in, passes, project, meaning}
use Rattle.plan_tree.specs.declared.tree.Way.{Way}
use Rattle.plan_tree.specs.Assignments.{Assignment, blank, rows_for}
use Rattle.plan_tree.specs.Conjuncts.{is_within, conjuncts}
use Rattle.plan_tree.specs.declared.tree.Method.{Method}
use Rattle.plan_tree.specs.Trees.{Shape, has, scans, IsTree}
use Rattle.plan_tree.specs.Rows.{layout_of_tree, tree_rows}
use Rattle.plan_tree.proofs.Sums.{only, Same, total_map, total_filter, total_same}
use Rattle.plan_tree.proofs.Choosing.{sum_over, sum_over_sort, sum_over_same, numbered, combos_sum}
use Rattle.plan_tree.proofs.Agreement.{conjuncts_met}
use Rattle.plan_tree.proofs.Placement.{holds, placed_met}
use Rattle.plan_tree.proofs.Combined.{over_blank}
use Rattle.plan_tree.proofs.Joined.{Stands}
use Rattle.plan_tree.proofs.TreeRows.{leaves, leaves_count, eq_is, scans_some, scans_none, tree_stands, tree_sound, Reads}
use Rattle.plan_tree.proofs.Bags.{arranged_same}

numbered_below : {X : Type 0} (n : ℕ) (xs : List X) (v : ℕ) → v < n → occurrences nat_cmp v (numbered n xs) ≡ 0
numbered_below n [] v h = refl
numbered_below n (x ∷ xs) v h =
    let k : (v == n) ≡ false = grind (arith, nat_tests) in
    let l : one_if (is_eq (nat_cmp v n)) ≡ 0 = ap one_if (eq_is v n ∙ k) in
    omega (arith, l, numbered_below (n + 1) xs v (omega arith))

-- each number below the length stands once
numbered_count : {X : Type 0} (n : ℕ) (xs : List X) (v : ℕ) → n ≤ v → occurrences nat_cmp v (numbered n xs) ≡ one_if (nat_lt v (n + length xs))
numbered_count n [] v h = let k : nat_lt v (n + 0) ≡ false = grind (arith, nat_tests) in sym (ap one_if k)
numbered_count n (x ∷ xs) v h = by (numbered_count (n + 1) xs v) (numbered_below (n + 1) xs v) (v == n) refl where
  by : (n + 1 ≤ v → occurrences nat_cmp v (numbered (n + 1) xs) ≡ one_if (nat_lt v ((n + 1) + length xs))) → (v < n + 1 → occurrences nat_cmp v (numbered (n + 1) xs) ≡ 0) →
      (b : Bool) → (v == n) ≡ b → one_if (is_eq (nat_cmp v n)) + occurrences nat_cmp v (numbered (n + 1) xs) ≡ one_if (nat_lt v (n + suc (length xs)))
  by more below true e =
      let k : v ≡ n = grind (arith, nat_tests) in
      let l : nat_lt v (n + suc (length xs)) ≡ true = grind (arith, nat_tests) in
      let r : one_if (nat_lt v (n + suc (length xs))) ≡ 1 = ap one_if l in
      let o : one_if (is_eq (nat_cmp v n)) ≡ 1 = ap one_if (eq_is v n ∙ e) in
      let z : occurrences nat_cmp v (numbered (n + 1) xs) ≡ 0 = below (omega arith) in
      omega (arith, r, o, z)
  by more below false e =
      let o : one_if (is_eq (nat_cmp v n)) ≡ 0 = ap one_if (eq_is v n ∙ e) in
      let z = more (let k : v ≡ n → ⊥ = grind (arith, nat_tests) in omega arith) in
      let s : (n + 1) + length xs ≡ n + suc (length xs) = omega arith in
      omega (arith, o, z, ap (λ r. one_if (nat_lt v r)) s)

one_if_most : (b : Bool) → one_if b ≤ 1
one_if_most true = lit≤ tt
one_if_most false = lit≤ tt

module _ (db : List Table) (q : Question) (m : Method) (t : Shape) (tree : IsTree q m t) where
  numbered_there : (z : ℕ) → occurrences nat_cmp z (numbered 0 q.vars) ≡ one_if (nat_lt z (length q.vars))
  numbered_there z = numbered_count 0 q.vars z (omega arith) ∙ (let k : 0 + length q.vars ≡ length q.vars = omega arith in ap (λ n. one_if (nat_lt z n)) k)

  same_leaves : sort_by nat_cmp (leaves t) ≡ sort_by nat_cmp (numbered 0 q.vars)
  same_leaves = bag_fixes nat_cmp_total exact_unsigned _ _ (sort_ascends nat_cmp_total (leaves t)) (sort_ascends nat_cmp_total (numbered 0 q.vars))
      (λ z. occurrences-sort nat_cmp_total z (leaves t) ∙ leaves_count t z ∙ tree.once z ∙ sym (numbered_there z) ∙ sym (occurrences-sort nat_cmp_total z (numbered 0 q.vars)))

  has_variable : (v : ℕ) → has t v ≡ nat_lt v (length q.vars)
  has_variable v = by (has t v) (nat_lt v (length q.vars)) refl refl where
    by : (b c : Bool) → has t v ≡ b → nat_lt v (length q.vars) ≡ c → b ≡ c
    by true true i j = refl
    by true false i j = absurd (let k = scans_some t v i in let l : scans t v ≡ 0 = tree.once v ∙ ap one_if j in omega arith)
    by false true i j = absurd (let k = scans_none t v i in let l : scans t v ≡ 1 = tree.once v ∙ ap one_if j in omega arith)
    by false false i j = refl

  module _ (within : AllByRecursion (λ c. is_within (λ v. nat_lt v (length q.vars)) c ≡ true) (conjuncts q.test)) where
    pub inside : AllByRecursion (λ c. is_within (has t) c ≡ true) (conjuncts q.test)
    inside = subst (λ vars. AllByRecursion (λ c. is_within vars c ≡ true) (conjuncts q.test)) (λ i v. sym (has_variable v) i) within

    pub once : (v : ℕ) → scans t v ≤ 1
    once v = let k = tree.once v in let l = one_if_most (nat_lt v (length q.vars)) in omega (arith, k, l)

    -- rows that stand for the choices of a tree's variables are, projected, those of the meaning
    pub stands_same_rows : (layout : List LayoutPart) (found : List (List Value)) → Stands (rows_for db q.vars) layout found (leaves t) (holds t) →
        Same (map (λ row. project q.targets (column_in layout row)) found) (map (λ choice. project q.targets (value_in choice)) (filter (λ choice. passes q.test (value_in choice)) (combos db q.vars)))
    stands_same_rows layout found stands g =
        let rows = rows_for db q.vars in
        let f = λ (d : Assignment). g (project q.targets d) in
        let weight = λ (d : Assignment). only (passes q.test d) (f d) in
        total_map g (λ row. project q.targets (column_in layout row)) found
        ∙ total_same _ _ found (λ row. ap f (sym (over_blank layout row)))
        ∙ stands.sums blank f
        ∙ sum_over_same rows (leaves t) blank (λ d. only (holds t d) (f d)) weight (λ d. ap (λ b. only b (f d)) (placed_met (conjuncts q.test) d t tree.placed inside ∙ conjuncts_met q.test d))
        ∙ sym (sum_over_sort rows (leaves t) blank weight) ∙ ap (λ vs. sum_over rows vs blank weight) same_leaves ∙ sum_over_sort rows (numbered 0 q.vars) blank weight
        ∙ sym (combos_sum db q.vars weight)
        ∙ sym (total_filter (λ choice. f (value_in choice)) (λ choice. passes q.test (value_in choice)) (combos db q.vars))
        ∙ sym (total_map g (λ choice. project q.targets (value_in choice)) (filter (λ choice. passes q.test (value_in choice)) (combos db q.vars)))

    pub stands_mean : (layout : List LayoutPart) (found : List (List Value)) → Stands (rows_for db q.vars) layout found (leaves t) (holds t) →
        arranged q.unique q.keys (map (λ row. project q.targets (column_in layout row)) found) ≡ meaning db q
    stands_mean layout found stands = arranged_same q.unique q.keys _ _ (stands_same_rows layout found stands)

    -- the rows of a query's tree, projected and arranged, are the query's meaning
    pub tree_means : (columns : ℕ → List LayoutColumn) (fits : (v : ℕ) → AllByRecursion (FitsColumns (columns v)) (rows_for db q.vars v)) (scanned : ℕ → Way → List (List Value)) →
        Reads columns (rows_for db q.vars) fits scanned t →
        arranged q.unique q.keys (map (λ row. project q.targets (column_in (layout_of_tree columns t) row)) (tree_rows columns scanned t)) ≡ meaning db q
    tree_means columns fits scanned reads =
        let rows = rows_for db q.vars in
        stands_mean (layout_of_tree columns t) (tree_rows columns scanned t)
        (tree_stands columns rows fits scanned t once (tree_sound columns rows fits scanned (conjuncts q.test) t once tree.placed inside reads))
