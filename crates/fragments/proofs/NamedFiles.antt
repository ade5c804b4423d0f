-- The files that the fragments of a script name are there.
use Rattle.std.proofs.Common.{◌≡◌, ℕ, ◌+◌, ◌-◌, ◌<◌, ◌^◌, List, [], ◌∷◌, ◌++◌, length, map, Option, Some, None, refl, sym, ap, ◌∙◌, subst, slice_get}
use Rattle.std.specs.Prelude.{⊤}
use Rattle.std.specs.List.{AllByRecursion}
use Rattle.rows.specs.declared.plain.KeyIndex.{KeyIndex}
use Rattle.rows.specs.declared.plain.KeyPair.{KeyPair}
use Rattle.rows.specs.declared.plain.Relation.{Relation}
use Rattle.rel_meaning.specs.declared.query.Var.{Var}
use Rattle.rel_meaning.specs.Expression.{Expression, Question}
use Rattle.heap_page.specs.declared.map.PageFile.{PageFile}
use Rattle.heap_page.specs.declared.head.FileKind.TheVariants as kind
use Rattle.plan_tree.specs.declared.tree.Method.TheVariants.{Hash, Merge}
use Rattle.plan_tree.specs.declared.tree.Way.{Way}
use Rattle.plan_tree.specs.declared.tree.Way.TheVariants as way
use Rattle.plan_tree.specs.Pieces.{Piece, building}
use Rattle.plan_tree.specs.Trees.{Shape, one, scan, join}
use Rattle.plan_tree.specs.Views.{Planned}
use Rattle.plan_tree.proofs.Elements.{all_append}
use Rattle.seq_optimizer.specs.declared.stats.VarStats.{VarStats}
use Rattle.kept_relations.specs.declared.kept.Kept.{Kept}
use Rattle.fragments.specs.Homes.{Home, Known, Store, heap_file, home_for, home_if, home_of, index_if, indexes_before, kept_home, made, made_by, nowhere, stored, stored_if}
use Rattle.fragments.specs.Cuts.{Cut, Facts, Opening, closed, cut_query, cut_tree, indexed_opening, left_sort, right_sort, scan_opening, stored_opening}
use Rattle.fragments.specs.Premises.{HasFile, HasFiles, HasIndexFile, HasNamedFiles, NamesFiles}
use Rattle.fragments.specs.Scripts.{cut_from, cut_plans, facts_next, last_next}

-- a relation whose files are there
abbrev StandsIn : List PageFile → Home → Type 0
StandsIn files nowhere = ⊤
StandsIn files (stored store) = HasFile files store.heap_file kind.Heap store.pages
    × ((index : KeyIndex) → store.index ≡ Some index → HasFile files index.file kind.Index index.pages × HasFile files store.heap_file kind.Heap index.heap_pages)
StandsIn files (made number columns) = ⊤

module _ (known : Known) (files : (relation : ℕ) (here : Relation) → slice_get known.relations relation ≡ Some here → HasFiles known relation here) where
  home_stands : (lasts : List ℕ) (relation : ℕ) → StandsIn known.files (home_of known lasts relation)
  home_stands lasts relation = by (slice_get known.relations relation) refl where
    indexed : (here : Relation) (column : Option ℕ) → HasIndexFile known relation here column → (index : KeyIndex) → index_if known.indexes (indexes_before known.relations relation) column ≡ Some index →
        HasFile known.files index.file kind.Index index.pages × HasFile known.files (heap_file known.relations relation) kind.Heap index.heap_pages
    indexed here None h index e = cc
    indexed here (Some column) h index e =
        let same : h.0 ≡ index = (let s : Some h.0 ≡ Some index = sym h.1 ∙ e in cc) in
        subst (λ (i : KeyIndex). HasFile known.files i.file kind.Index i.pages × HasFile known.files (heap_file known.relations relation) kind.Heap i.heap_pages) same (h.2.pages, h.2.heap_pages)

    by_number : (kept : Kept) (o : Option ℕ) → StandsIn known.files (made_by kept o)
    by_number kept None = tt
    by_number kept (Some number) = tt

    by_kept : (o : Option Kept) → StandsIn known.files (kept_home lasts o)
    by_kept None = tt
    by_kept (Some kept) = by_number kept (slice_get lasts kept.statement)

    by : (o : Option Relation) → slice_get known.relations relation ≡ o → StandsIn known.files (home_if known lasts relation o)
    by None h = by_kept (slice_get known.kept (relation - length known.relations))
    by (Some here) h =
        let f = files relation here h in
        subst (λ o. StandsIn known.files (stored_if known relation here o)) (sym f.heap) (f.heap, λ index e. indexed here here.index f.index index e)

  var_stands : (lasts : List ℕ) (o : Option Var) → StandsIn known.files (home_for known lasts o)
  var_stands lasts None = tt
  var_stands lasts (Some var) = home_stands lasts var.relation

  -- a fragment before its end whose files are there
  abbrev Opens : Opening → Type 0
  Opens o = NamesFiles known.files o.pipe.source o.pages

  scan_names : (v : ℕ) (home : Home) (how : Way) (rows : ℕ) (tests : List Expression) → StandsIn known.files home → Opens (scan_opening v home how rows tests)
  scan_names v nowhere how rows tests h = tt
  scan_names v (stored store) way.Heap rows tests h = h.0
  scan_names v (stored store) (way.Index interval) rows tests h = by store.index refl where
    by : (o : Option KeyIndex) → store.index ≡ o → Opens (indexed_opening v store o interval rows tests)
    by None e = h.0
    by (Some index) e = h.1 index e
  scan_names v (made number columns) how rows tests h = tt

  abbrev AreNamed : List Piece → Type 0
  AreNamed ps = AllByRecursion (HasNamedFiles known.files) ps

  tree_names : (facts : Facts) → ((v : ℕ) → StandsIn known.files (facts.home v)) → (n : ℕ) (t : Shape) → AreNamed (cut_tree facts n t).before × Opens (cut_tree facts n t).last
  tree_names facts stand n (one tests) = (tt, tt)
  tree_names facts stand n (scan v how tests) = (tt, scan_names v (facts.home v) how (facts.rows v) tests (stand v))
  tree_names facts stand n (join Hash a b keys tests) =
      let ca = cut_tree facts n a in
      let ia = tree_names facts stand n a in
      let ib = tree_names facts stand (n + length ca.before + 1) b in
      (all_append (HasNamedFiles known.files) ca.before _ ia.0 (ia.1, ib.0), ib.1)
  tree_names facts stand n (join Merge a b keys tests) =
      let ca = cut_tree facts n a in
      let cb = cut_tree facts (n + length ca.before + 1) b in
      let ia = tree_names facts stand n a in
      let ib = tree_names facts stand (n + length ca.before + 1) b in
      (all_append (HasNamedFiles known.files) ca.before _ ia.0 (ia.1, all_append (HasNamedFiles known.files) cb.before _ ib.0 (ib.1, tt)), tt)

  pub script_names : (table : List (List VarStats)) (ps : List Planned) (lasts : List ℕ) (n : ℕ) → AllByRecursion (HasNamedFiles known.files) (cut_from known table lasts n ps)
  script_names table [] lasts n = tt
  script_names table (p ∷ ps) lasts n =
      let f = facts_next known table lasts p in
      let last = last_next known table lasts n p in
      let is = tree_names f (λ v. var_stands lasts (slice_get p.query.vars v)) n p.tree in
      all_append (HasNamedFiles known.files) (cut_query f n p.query p.tree) _ (all_append (HasNamedFiles known.files) (cut_tree f n p.tree).before _ is.0 (is.1, tt))
      (script_names table ps (lasts ++ last ∷ []) (last + 1))
