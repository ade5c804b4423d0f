-- What each statement of a script may read, when its plan is cut.
use Rattle.std.proofs.Common.{◌≡◌, ℕ, zero, suc, ◌+◌, ◌-◌, ◌<◌, ◌≤◌, Bool, true, false, ◌==◌, List, [], ◌∷◌, ◌++◌, length, map, Option, Some, None, refl, sym, ap, ◌∙◌, subst, arith, lit≤, length-append, slice_get}
use Rattle.std.specs.Prelude.{⊤, slice_index_or, IfSome, All}
use Rattle.std.specs.List.{AllByRecursion}
use Rattle.std.proofs.lemmas.List.{append-nil, length-map}
use Rattle.std.proofs.lemmas.Bool.Decides.{nat_tests}
use Rattle.std.proofs.lemmas.List.Elements.{All-from_recursion, recursion_from_All}
use Rattle.rows.specs.declared.plain.LayoutColumn.{LayoutColumn}
use Rattle.rows.specs.declared.plain.Column.{Column}
use Rattle.rows.specs.declared.plain.Relation.{Relation}
use Rattle.rel_meaning.specs.declared.query.Var.{Var}
use Rattle.rel_meaning.specs.Expression.{Question}
use Rattle.rel_meaning.specs.Meaning.{layout_column, listed}
use Rattle.heap_page.specs.declared.map.PageFile.{PageFile}
use Rattle.plan_tree.specs.Trees.{Shape, one, scan, join, has, IsTree}
use Rattle.plan_tree.specs.Views.{Planned}
use Rattle.plan_tree.proofs.Placement.{left_more, right_more}
use Rattle.seq_optimizer.specs.declared.stats.VarStats.{VarStats}
use Rattle.kept_relations.specs.declared.kept.Kept.{Kept}
use Rattle.kept_relations.specs.KeptColumns.{kept_columns}
use Rattle.kept_answers.specs.KeptAnswers.{FitQueries, FitsTargets, IsResolvedIn, columns_behind, columns_kept, kept_of}
use Rattle.fragments.specs.Homes.{Home, Known, columns_in, heap_file, home_for, home_if, home_of, kept_home, made_by, stored_home, stored_if}
use Rattle.fragments.specs.Cuts.{Facts}
use Rattle.fragments.specs.Opened.{fragment_count}
use Rattle.fragments.specs.Premises.{HasFiles, IsKept, MayCut, IsWithin, MayCutPlan, MayRead, MayScan, ReadsWithin, catalog_columns, index_for}
use Rattle.fragments.specs.Scripts.{facts_next, last_next}
use Rattle.fragments.proofs.Sizes.{has_below, tree_count}
use Rattle.fragments.proofs.Standing.{Standing, all_at, or_at, some_at, home_there, may_read, standing_next}

-- no relation has more than 32 columns

kept_width : (columns : List Column) (bounds : List ℕ) → length (kept_columns columns bounds) ≤ length columns
kept_width [] bounds = lit≤ tt
kept_width (c ∷ cs) [] = omega arith
kept_width (c ∷ cs) (b ∷ bs) = (let k = kept_width cs bs in omega (arith, k))

module _ (known : Known) (narrow : AllByRecursion (λ (here : Relation). length here.columns ≤ 32) known.relations) (bounds : AllByRecursion IsKept known.kept) (lasts : List ℕ) where
  home_width : (relation : ℕ) → length (columns_in (home_of known lasts relation)) ≤ 32
  home_width relation = by (slice_get known.relations relation) refl where
    in_file : (here : Relation) → length here.columns ≤ 32 → (o : Option PageFile) → length (columns_in (stored_if known relation here o)) ≤ 32
    in_file here w None = lit≤ tt
    in_file here w (Some file) = (let l = length-map here.columns layout_column in omega (arith, l, w))

    by_number : (kept : Kept) → length kept.columns ≤ 32 → (o : Option ℕ) → length (columns_in (made_by kept o)) ≤ 32
    by_number kept w None = lit≤ tt
    by_number kept w (Some number) = (let k = kept_width kept.columns kept.bounds in omega (arith, k, w))

    by_kept : (o : Option Kept) → slice_get known.kept (relation - length known.relations) ≡ o → length (columns_in (kept_home lasts o)) ≤ 32
    by_kept None h = lit≤ tt
    by_kept (Some kept) h = by_number kept (all_at IsKept known.kept _ kept bounds h).narrow (slice_get lasts kept.statement)

    by : (o : Option Relation) → slice_get known.relations relation ≡ o → length (columns_in (home_if known lasts relation o)) ≤ 32
    by None h = by_kept (slice_get known.kept (relation - length known.relations)) refl
    by (Some here) h = in_file here (all_at (λ (r : Relation). length r.columns ≤ 32) known.relations relation here narrow h) (slice_get known.files (heap_file known.relations relation))

  pub var_width : (o : Option Var) → length (columns_in (home_for known lasts o)) ≤ 32
  var_width None = lit≤ tt
  var_width (Some var) = home_width var.relation

each_bound : (ks : List Kept) → AllByRecursion IsKept ks → AllByRecursion (λ (k : Kept). length k.bounds ≡ length k.columns) ks
each_bound [] all = tt
each_bound (k ∷ ks) all = (all.0.each, each_bound ks all.1)

pub kept_bounds : (ks : List Kept) → All IsKept ks → All (λ (k : Kept). length k.bounds ≡ length k.columns) ks
kept_bounds ks all = All-from_recursion (λ (k : Kept). length k.bounds ≡ length k.columns) ks (each_bound ks (recursion_from_All IsKept ks all))

-- a statement that may be cut, behind those whose last fragments have these numbers
pub record Ready (known : Known) (table : List (List VarStats)) (lasts : List ℕ) (columns : List (List LayoutColumn)) (p : Planned) : Type 0 where
  pub standing : Standing known lasts columns
  pub resolved : IsResolvedIn columns p.query
  pub plan : MayCutPlan known (slice_index_or table (length lasts) []) p
  pub few : length lasts < 16
  pub keeps : IfSome (kept_of known.kept (length lasts)) (FitsTargets columns p.query)

abbrev pub AreReady : Known → List (List VarStats) → List ℕ → List (List LayoutColumn) → ℕ → List Planned → Type 0
AreReady known table lasts columns n [] = ⊤
AreReady known table lasts columns n (p ∷ ps) =
    let last = last_next known table lasts n p in
    Ready known table lasts columns p
    × AreReady known table (lasts ++ last ∷ []) (columns_behind columns (kept_of known.kept (length lasts))) (last + 1) ps

module _ (known : Known) (table : List (List VarStats)) where
  ready_from : (ps : List Planned) (lasts : List ℕ) (columns : List (List LayoutColumn)) (n : ℕ) → Standing known lasts columns → FitQueries columns known.kept (length lasts) (map (λ (p : Planned). p.query) ps) →
      length lasts + length ps ≤ 16 → length table ≡ length lasts + length ps →
      ((j : ℕ) (p : Planned) (stats : List VarStats) → slice_get ps j ≡ Some p → slice_get table (length lasts + j) ≡ Some stats → MayCutPlan known stats p) → AreReady known table lasts columns n ps
  ready_from [] lasts columns n standing fit few same plans = tt
  ready_from (p ∷ ps) lasts columns n standing fit few same plans =
      let last = last_next known table lasts n p in
      let long = length-append lasts (last ∷ []) in
      let stats = some_at table (length lasts) (omega (arith, same)) in
      let here : slice_get table (length lasts + 0) ≡ Some stats.0 = (let z : length lasts + 0 ≡ length lasts = omega arith in ap (slice_get table) z ∙ stats.1) in (
        record {
          standing = standing;
          resolved = fit.0;
          plan = subst (λ s. MayCutPlan known s p) (sym (or_at table (length lasts) stats.0 [] stats.1)) (plans 0 p stats.0 refl here);
          few = omega (arith, few);
          keeps = fit.1;
        },
        ready_from ps (lasts ++ last ∷ []) (columns_behind columns (kept_of known.kept (length lasts))) (last + 1) (standing_next known lasts columns standing last)
            (subst (λ m. FitQueries (columns_behind columns (kept_of known.kept (length lasts))) known.kept m (map (λ (p : Planned). p.query) ps)) (sym long) fit.2)
            (omega (arith, few, long)) (omega (arith, same, long))
            (λ j r s h k. plans (suc j) r s h (let e : length lasts + suc j ≡ length (lasts ++ last ∷ []) + j = omega (arith, long) in ap (slice_get table) e ∙ k)),
      )

  pub all_ready : (ps : List Planned) → MayCut known table ps → AreReady known table [] (catalog_columns known) 0 ps
  all_ready ps may = ready_from ps [] (catalog_columns known) 0
      (record { done = []; todo = known.kept; split = refl; before = tt; behind = may.kept.ascending; are = sym (append-nil (catalog_columns known)) })
      may.kept.queries (omega (arith, may.few)) (omega (arith, may.stats))
      (λ j p s h k. may.plans j p s h (let z : 0 + j ≡ j = omega arith in ap (slice_get table) (sym z) ∙ k))

module _ (known : Known) (table : List (List VarStats)) (lasts : List ℕ) (columns : List (List LayoutColumn)) (p : Planned) (files : (relation : ℕ) (here : Relation) → slice_get known.relations relation ≡ Some here → HasFiles known relation here)
    (ready : Ready known table lasts columns p) where
  facts : Facts
  facts = facts_next known table lasts p

  var_at : (v : ℕ) → v < length p.query.vars → (var : Var) × (slice_get p.query.vars v ≡ Some var)
  var_at v less = some_at p.query.vars v less

  scans_may : (t : Shape) → ((v : ℕ) → has t v ≡ true → v < length p.query.vars) → ReadsWithin known p.query t → MayScan (λ v. home_for known lasts (slice_get p.query.vars v)) (length p.query.vars) t
  scans_may (one tests) below within = tt
  scans_may (scan v how tests) below within =
      let less = below v (let k : (v == v) ≡ true = grind (arith, nat_tests) in k) in
      let var = var_at v less in
      let there = home_there known files lasts columns ready.standing var.0.relation (all_at (λ (x : Var). x.relation < length columns) p.query.vars v var.0 (recursion_from_All (λ (x : Var). x.relation < length columns) p.query.vars ready.resolved.relations) var.1) in
      (less, subst (λ o. MayRead (home_for known lasts o) how) (sym var.1) (may_read known lasts var.0.relation how there.there (subst (λ o. IsWithin (index_for known o) how) var.1 within)))
  scans_may (join m a b keys tests) below within = (
    scans_may a (λ v h. below v (left_more (has a v) (has b v) h)) within.0,
    scans_may b (λ v h. below v (right_more (has a v) (has b v) h)) within.1,
  )

  pub may_scan : MayScan (facts_next known table lasts p).home (length p.query.vars) p.tree
  may_scan = scans_may p.tree (has_below p.query ready.plan.tree.0 p.tree ready.plan.tree.1) ready.plan.intervals

  pub few_fragments : fragment_count p.tree ≤ 11
  few_fragments = tree_count p.query ready.plan.tree.0 p.tree ready.plan.tree.1 ready.plan.plan.few
