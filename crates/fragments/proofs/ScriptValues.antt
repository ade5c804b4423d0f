-- The values of the statements' last fragments are the answers of their queries.
use Rattle.std.proofs.Common.{◌≡◌, ℕ, zero, suc, ◌+◌, ◌-◌, ◌<◌, ◌≤◌, Bool, true, false, ◌==◌, nat_lt, List, [], ◌∷◌, ◌++◌, length, map, Option, Some, None, refl, sym, ap, ◌∙◌, subst, arith, append_assoc, length-append, slice_get, inl, inr}
use Rattle.std.specs.Prelude.{⊤, IsTrue, IfSome, All, ◌⊎◌}
use Rattle.std.specs.List.{flat_map, AllByRecursion, range_with_len}
use Rattle.std.proofs.lemmas.Bool.{cases_lt}
use Rattle.std.proofs.lemmas.Bool.Decides.{nat_tests}
use Rattle.std.proofs.lemmas.List.{append-nil, map-append}
use Rattle.std.proofs.lemmas.List.Elements.{recursion_from_All}
use Rattle.rows.specs.declared.value.Value.{Value}
use Rattle.rows.specs.declared.plain.LayoutColumn.{LayoutColumn}
use Rattle.rows.specs.declared.plain.Relation.{Relation}
use Rattle.rows.specs.Layouts.{column_in, FitsColumns, one_part}
use Rattle.rows.specs.RowBytes.{IsRowOf}
use Rattle.rows.specs.Values.{arranged}
use Rattle.rel_meaning.specs.declared.query.Table.{Table}
use Rattle.rel_meaning.specs.declared.query.Var.{Var}
use Rattle.rel_meaning.specs.Expression.{Expression, Question}
use Rattle.rel_meaning.specs.Meaning.{layout_column, listed, meaning, project, rows_at, rows_of}
use Rattle.heap_page.specs.declared.map.PageFile.{PageFile}
use Rattle.plan_tree.specs.declared.tree.Method.{Method}
use Rattle.plan_tree.specs.declared.tree.Way.{Way}
use Rattle.plan_tree.specs.Assignments.{rows_for, rows_if}
use Rattle.plan_tree.specs.Conjuncts.{conjuncts, is_within}
use Rattle.plan_tree.specs.Fragments.{Stored, piped, value_at, value_of, values_after, values_of}
use Rattle.plan_tree.specs.Pieces.{Piece, answering}
use Rattle.plan_tree.specs.Trees.{Shape, one, scan, join, has, IsPlaced, IsTree, is_variable, scan_tests}
use Rattle.plan_tree.specs.Views.{Planned}
use Rattle.plan_tree.proofs.Placement.{left_more, right_more}
use Rattle.plan_tree.proofs.Shapes.{row_fits}
use Rattle.plan_tree.proofs.TreeMeaning.{inside, once, stands_mean}
use Rattle.plan_tree.proofs.TreeRows.{Reads, tree_sound}
use Rattle.plan_tree.proofs.Typing.{get_left, get_right, typed_within}
use Rattle.seq_optimizer.specs.declared.stats.VarStats.{VarStats}
use Rattle.kept_relations.specs.declared.kept.Kept.{Kept}
use Rattle.kept_answers.specs.KeptAnswers.{AscendFrom, FitColumns, FitsTargets, answers_from, answers_of, columns_behind, kept_of, layout_in, tables_behind}
use Rattle.kept_answers.proofs.Fitting.{can_be_asked, fit_behind, fit_length}
use Rattle.fragments.specs.Homes.{Home, Known, columns_in, heap_file, home_for, home_if, home_of, kept_home, made, made_by, nowhere, stored_if}
use Rattle.fragments.specs.Cuts.{Cut, Facts, closed, columns_for, cut_query, cut_tree, tree_layout}
use Rattle.fragments.specs.Laws.{HoldTables, Mean, PlansFit, ReadsLeft}
use Rattle.fragments.specs.Premises.{HasFiles, MayCut, MayScan, catalog_columns}
use Rattle.fragments.specs.Scripts.{cut_from, cut_plans, facts_next, last_next, last_numbers, lasts_from}
use Rattle.plan_tree.specs.Rows.{kept}
use Rattle.plan_tree.proofs.Sums.{Same}
use Rattle.fragments.proofs.Formed.{less_of}
use Rattle.fragments.proofs.FormedScript.{at_least, kept_is, names_own}
use Rattle.fragments.proofs.Standing.{all_at, columns_long, home_there, some_at}
use Rattle.fragments.proofs.Steps.{AreReady, Ready, all_ready, may_scan}
use Rattle.fragments.proofs.StoredReads.{scan_reads}
use Rattle.fragments.proofs.TreeValues.{AreKept, Begins, cuts, scanned, value_found, values_append, values_begin, values_length}

map_flat : {X Y Z : Type 0} (f : Y → Z) (g : X → List Y) (ns : List X) → flat_map (λ n. map f (g n)) ns ≡ map f (flat_map g ns)
map_flat f g [] = refl
map_flat f g (n ∷ ns) = ap (λ r. map f (g n) ++ r) (map_flat f g ns) ∙ sym (map-append f (g n) (flat_map g ns))

-- ---- one statement

module _ (files : Stored) (facts : Facts) (db : List Table) (q : Question) (m : Method) (t : Shape) (tree : IsTree q m t)
    (within : AllByRecursion (λ c. is_within (λ v. nat_lt v (length q.vars)) c ≡ true) (conjuncts q.test))
    (fits : (v : ℕ) → AllByRecursion (FitsColumns (columns_for facts v)) (rows_for db q.vars v))
    (reads : Reads (columns_for facts) (rows_for db q.vars) fits (scanned files facts (rows_for db q.vars) fits) t)
    (may : MayScan facts.home (length q.vars) t) where
  abbrev pub AreRight : List (List (List Value)) → Type 0
  AreRight values = AreKept files facts (rows_for db q.vars) fits values

  last_value : (values : List (List (List Value))) → AreRight values →
      value_of files (values_after files values (cut_tree facts (length values) t).before) (closed facts t (cut_tree facts (length values) t).last (answering q.targets q.unique q.keys)) ≡ meaning db q
  last_value values right =
      let o = (cut_tree facts (length values) t).last in
      let now = values_after files values (cut_tree facts (length values) t).before in
      let sound = tree_sound (columns_for facts) (rows_for db q.vars) fits (scanned files facts (rows_for db q.vars) fits) (conjuncts q.test) t (once db q m t tree within) tree.placed (inside db q m t tree within) reads in
      ap (arranged q.unique q.keys) (map_flat (λ row. project q.targets (column_in (tree_layout facts t) row)) (piped files now o.pipe) (range_with_len 0 o.positions))
      ∙ stands_mean db q m t tree within (tree_layout facts t) (flat_map (piped files now o.pipe) (range_with_len 0 o.positions))
      ((cuts files facts (rows_for db q.vars) fits (length q.vars) (length values) t (once db q m t tree within) sound may).stands values now refl right (λ i h. refl))

  -- the value of the last fragment, as any later fragment finds it
  pub statement_value : (values later : List (List (List Value))) → AreRight values → Begins (values_after files values (cut_query facts (length values) q t)) later →
      value_at later (length values + length (cut_tree facts (length values) t).before) ≡ meaning db q
  statement_value values later right begin =
      let c = cut_tree facts (length values) t in
      let d = values_after files values c.before in
      let last = closed facts t c.last (answering q.targets q.unique q.keys) in
      value_found files d (value_of files d last) [] later (length values + length c.before) (values_length files values c.before)
      (subst (λ x. Begins x later) (values_append files values c.before (last ∷ [])) begin)
      ∙ last_value values right

-- ---- scripts

module _ (files : Stored) (known : Known) (db : List Table) (holds : HoldTables files known db) (table : List (List VarStats)) (up : AllByRecursion (λ (here : Relation). length here.columns ≤ 32) known.relations)
    (has_files : (relation : ℕ) (here : Relation) → slice_get known.relations relation ≡ Some here → HasFiles known relation here) where
  -- the tables and the values before a statement
  pub record Valued (lasts : List ℕ) (columns : List (List LayoutColumn)) (tables : List Table) (values : List (List (List Value))) : Type 0 where
    pub fit : FitColumns columns tables
    pub front : (relation : ℕ) → relation < length db → slice_get tables relation ≡ slice_get db relation
    pub right : (k : Kept) (place number : ℕ) → slice_get known.kept place ≡ Some k → slice_get lasts k.statement ≡ Some number →
        (number < length values) × (value_at values number ≡ rows_of tables (length known.relations + place))

  module _ (lasts : List ℕ) (columns : List (List LayoutColumn)) (tables : List Table) (values : List (List (List Value))) (p : Planned) (ready : Ready known table lasts columns p) (valued : Valued lasts columns tables values) (left : ReadsLeft files known p.query p.tree) where
    abbrev facts : Facts
    facts = facts_next known table lasts p

    var_fits : (o : Option Var) → ((var : Var) → o ≡ Some var → var.relation < length columns) → AllByRecursion (FitsColumns (columns_in (home_for known lasts o))) (rows_if tables o)
    var_fits None less = tt
    var_fits (Some var) less =
        let home = home_there known has_files lasts columns ready.standing var.relation (less var refl) in
        let can = can_be_asked columns tables p.query valued.fit ready.resolved in
        subst (λ cs. AllByRecursion (FitsColumns cs) (rows_of tables var.relation)) (sym home.are) (recursion_from_All (FitsColumns (listed columns var.relation)) (rows_of tables var.relation) (can.tables var.relation))

    var_below : (v : ℕ) (var : Var) → slice_get p.query.vars v ≡ Some var → var.relation < length columns
    var_below v var e = all_at (λ (x : Var). x.relation < length columns) p.query.vars v var (recursion_from_All (λ (x : Var). x.relation < length columns) p.query.vars ready.resolved.relations) e

    pub fits : (v : ℕ) → AllByRecursion (FitsColumns (columns_for facts v)) (rows_for tables p.query.vars v)
    fits v = var_fits (slice_get p.query.vars v) (λ var e. var_below v var e)

    names : AllByRecursion (λ c. is_within (λ v. nat_lt v (length p.query.vars)) c ≡ true) (conjuncts p.query.test)
    names = names_own known table has_files lasts columns p ready

    -- what each scan of the tree reads
    node_reads : (root : Bool) (t : Shape) → IsPlaced (conjuncts p.query.test) root t → ReadsLeft files known p.query t → Reads (columns_for facts) (rows_for tables p.query.vars) fits (scanned files facts (rows_for tables p.query.vars) fits) t
    node_reads root (one tests) placed h = tt
    node_reads root (scan v how tests) placed h =
        let is : tests ≡ scan_tests root (λ u. v == u) (conjuncts p.query.test) = by_root root placed in
        subst (λ ts. ReadsLeft files known p.query (scan v how ts) → Same (kept (one_part v (columns_for facts v)) ts (scanned files facts (rows_for tables p.query.vars) fits v how)) (kept (one_part v (columns_for facts v)) ts (rows_for tables p.query.vars v))) (sym is)
        (scan_reads files known db holds up tables valued.front lasts p.query root v how) h
      where
        by_root : (r : Bool) → IsPlaced (conjuncts p.query.test) r (scan v how tests) → tests ≡ scan_tests r (λ u. v == u) (conjuncts p.query.test)
        by_root true k = k
        by_root false k = k
    node_reads root (join m a b keys tests) placed h = by root placed (node_reads false a) (node_reads false b) where
      by : (r : Bool) → IsPlaced (conjuncts p.query.test) r (join m a b keys tests) →
          (IsPlaced (conjuncts p.query.test) false a → ReadsLeft files known p.query a → Reads (columns_for facts) (rows_for tables p.query.vars) fits (scanned files facts (rows_for tables p.query.vars) fits) a) →
          (IsPlaced (conjuncts p.query.test) false b → ReadsLeft files known p.query b → Reads (columns_for facts) (rows_for tables p.query.vars) fits (scanned files facts (rows_for tables p.query.vars) fits) b) →
          Reads (columns_for facts) (rows_for tables p.query.vars) fits (scanned files facts (rows_for tables p.query.vars) fits) (join m a b keys tests)
      by true k fa fb = (fa k.0 h.0, fb k.1 h.1)
      by false k fa fb = (fa k.0 h.0, fb k.1 h.1)

    right_for : AreKept files facts (rows_for tables p.query.vars) fits values
    right_for v number cs = by (slice_get p.query.vars v) refl where
      in_file : (relation : ℕ) (here : Relation) (o : Option PageFile) → stored_if known relation here o ≡ made number cs → (number < length values) × (value_at values number ≡ rows_of tables relation)
      in_file relation here None e = cc
      in_file relation here (Some file) e = cc

      by_number : (relation place : ℕ) (k : Kept) → relation ≡ length known.relations + place → slice_get known.kept place ≡ Some k → (o : Option ℕ) → slice_get lasts k.statement ≡ o → made_by k o ≡ made number cs →
          (number < length values) × (value_at values number ≡ rows_of tables relation)
      by_number relation place k e at None h is = cc
      by_number relation place k e at (Some n) h is =
          let same : n ≡ number = cc in
          let found = valued.right k place number at (h ∙ ap (λ x. Some x) same) in
          (found.0, found.1 ∙ sym (ap (rows_of tables) e))

      by_kept : (relation : ℕ) → length known.relations ≤ relation → (o : Option Kept) → slice_get known.kept (relation - length known.relations) ≡ o → kept_home lasts o ≡ made number cs →
          (number < length values) × (value_at values number ≡ rows_of tables relation)
      by_kept relation past None at is = cc
      by_kept relation past (Some k) at is = by_number relation (relation - length known.relations) k (omega (arith, past)) at (slice_get lasts k.statement) refl is

      past_end : (relation : ℕ) → slice_get known.relations relation ≡ None → length known.relations ≤ relation
      past_end relation h = elim (cases_lt relation (length known.relations)) [
        | inl below ↦ absurd (let s = some_at known.relations relation below in let no : ◌≡◌ {A = Option Relation} None (Some s.0) = sym h ∙ s.1 in cc)
        | inr above ↦ above
      ]

      at_relation : (relation : ℕ) → (o : Option Relation) → slice_get known.relations relation ≡ o → home_if known lasts relation o ≡ made number cs → (number < length values) × (value_at values number ≡ rows_of tables relation)
      at_relation relation None h is = by_kept relation (past_end relation h) (slice_get known.kept (relation - length known.relations)) refl is
      at_relation relation (Some here) h is = in_file relation here (slice_get known.files (heap_file known.relations relation)) is

      by : (o : Option Var) → slice_get p.query.vars v ≡ o → home_for known lasts o ≡ made number cs → (number < length values) × (value_at values number ≡ rows_if tables o)
      by None e is = cc
      by (Some var) e is = at_relation var.relation (slice_get known.relations var.relation) refl is

    -- the value of the statement's last fragment, as any later fragment finds it
    pub value_here : (n : ℕ) (later : List (List (List Value))) → length values ≡ n → Begins (values_after files values (cut_query facts n p.query p.tree)) later → value_at later (last_next known table lasts n p) ≡ meaning tables p.query
    value_here n later size = subst (λ k. Begins (values_after files values (cut_query facts k p.query p.tree)) later → value_at later (last_next known table lasts k p) ≡ meaning tables p.query) size
        (statement_value files facts tables p.query ready.plan.tree.0 p.tree ready.plan.tree.1 names fits (node_reads true p.tree ready.plan.tree.1.placed left) (may_scan known table lasts columns p has_files ready) values later right_for)

    -- ---- the next statement

    behind : List Table
    behind = tables_behind tables (kept_of known.kept (length lasts)) (meaning tables p.query)

    fit_next : (o : Option Kept) → IfSome o (FitsTargets columns p.query) → FitColumns (columns_behind columns o) (tables_behind tables o (meaning tables p.query))
    fit_next None h = valued.fit
    fit_next (Some k) h = fit_behind columns tables p.query k valued.fit h

    tables_long : length tables ≡ length known.relations + length ready.standing.done
    tables_long = sym (fit_length columns tables valued.fit) ∙ columns_long known has_files lasts columns ready.standing

    keep_front : (o : Option Kept) (relation : ℕ) → relation < length tables → slice_get (tables_behind tables o (meaning tables p.query)) relation ≡ slice_get tables relation
    keep_front None relation less = refl
    keep_front (Some k) relation less = get_left tables (record { columns = k.columns; rows = meaning tables p.query } ∷ []) relation less

    db_long : length db ≤ length tables
    db_long = omega (arith, holds.each, tables_long)

    -- a kept relation of an earlier statement is among the done ones
    place_done : (k : Kept) (place : ℕ) → slice_get known.kept place ≡ Some k → k.statement < length lasts → place < length ready.standing.done
    place_done k place at earlier = elim (cases_lt place (length ready.standing.done)) [
      | inl below ↦ below
      | inr above ↦ absurd (
          let e : place ≡ length ready.standing.done + (place - length ready.standing.done) = omega (arith, above) in
          let there : slice_get ready.standing.todo (place - length ready.standing.done) ≡ Some k =
          sym (get_right ready.standing.done ready.standing.todo (place - length ready.standing.done)) ∙ ap (slice_get (ready.standing.done ++ ready.standing.todo)) (sym e) ∙ sym (ap (λ ks. slice_get ks place) ready.standing.split) ∙ at in
          let late = at_least (length lasts) (place - length ready.standing.done) ready.standing.todo k ready.standing.behind there in
          omega (arith, late, earlier))
    ]

    first_todo : (ks : List Kept) (i : ℕ) (k : Kept) → AscendFrom (length lasts) ks → slice_get ks i ≡ Some k → k.statement ≡ length lasts → i ≡ 0
    first_todo [] i k h at e = cc
    first_todo (x ∷ xs) zero k h at e = refl
    first_todo (x ∷ xs) (suc i) k h at e = absurd (let late = at_least (x.statement + 1) i xs k h.1 at in let first = h.0 in omega (arith, late, first, e))

    place_here : (k : Kept) (place : ℕ) → slice_get known.kept place ≡ Some k → k.statement ≡ length lasts → place ≡ length ready.standing.done
    place_here k place at e = elim (cases_lt place (length ready.standing.done)) [
      | inl below ↦ absurd (
          let there : slice_get ready.standing.done place ≡ Some k = sym (get_left ready.standing.done ready.standing.todo place below) ∙ sym (ap (λ ks. slice_get ks place) ready.standing.split) ∙ at in
          let early = all_at (λ (x : Kept). x.statement < length lasts) ready.standing.done place k ready.standing.before there in
          omega (arith, early, e))
      | inr above ↦
          let f : place ≡ length ready.standing.done + (place - length ready.standing.done) = omega (arith, above) in
          let there : slice_get ready.standing.todo (place - length ready.standing.done) ≡ Some k =
          sym (get_right ready.standing.done ready.standing.todo (place - length ready.standing.done)) ∙ ap (slice_get (ready.standing.done ++ ready.standing.todo)) (sym f) ∙ sym (ap (λ ks. slice_get ks place) ready.standing.split) ∙ at in
          let none = first_todo ready.standing.todo (place - length ready.standing.done) k ready.standing.behind there e in
          omega (arith, f, none)
    ]

    pub valued_next : AscendFrom 0 known.kept → (n : ℕ) → length values ≡ n →
        Valued (lasts ++ last_next known table lasts n p ∷ []) (columns_behind columns (kept_of known.kept (length lasts))) (tables_behind tables (kept_of known.kept (length lasts)) (meaning tables p.query)) (values_after files values (cut_query facts n p.query p.tree))
    valued_next ups n size = record {
      fit = fit_next (kept_of known.kept (length lasts)) ready.keeps;
      front = λ relation less. keep_front (kept_of known.kept (length lasts)) relation (omega (arith, less, db_long)) ∙ valued.front relation less;
      right = λ k place number at is. elim (cases_lt k.statement (length lasts)) [
        | inl earlier ↦
            let found = valued.right k place number at (sym (get_left lasts (last_next known table lasts n p ∷ []) k.statement earlier) ∙ is) in
            let done = place_done k place at earlier in (
              omega (arith, found.0, long),
              values_begin files values (cut_query facts n p.query p.tree) number found.0 ∙ found.1
                  ∙ sym (ap rows_at (keep_front (kept_of known.kept (length lasts)) (length known.relations + place) (omega (arith, done, tables_long)))),
            )
        | inr later ↦
            let l = less_of (lasts ++ last_next known table lasts n p ∷ []) k.statement number is in
            let m = length-append lasts (last_next known table lasts n p ∷ []) in
            let e : k.statement ≡ length lasts = omega (arith, l, m, later) in
            let e0 : k.statement ≡ length lasts + 0 = omega (arith, e) in
            let found : Some (last_next known table lasts n p) ≡ Some number = sym (get_right lasts (last_next known table lasts n p ∷ []) 0) ∙ ap (slice_get (lasts ++ last_next known table lasts n p ∷ [])) (sym e0) ∙ is in
            let same : last_next known table lasts n p ≡ number = cc in
            let kept_now : kept_of known.kept (length lasts) ≡ Some k = ap (kept_of known.kept) (sym e) ∙ kept_is 0 place known.kept k ups at in
            let here = place_here k place at e in
            let end : length known.relations + place ≡ length tables + 0 = omega (arith, here, tables_long) in
            let value = value_here n (values_after files values (cut_query facts n p.query p.tree)) size (λ i h. refl) in (
              omega (arith, long, same, size, cut_long),
              ap (value_at (values_after files values (cut_query facts n p.query p.tree))) (sym same) ∙ value
                  ∙ sym (ap (λ o. rows_of (tables_behind tables o (meaning tables p.query)) (length known.relations + place)) kept_now
                  ∙ ap (rows_of (tables_behind tables (Some k) (meaning tables p.query))) end
                  ∙ ap rows_at (get_right tables (record { columns = k.columns; rows = meaning tables p.query } ∷ []) 0)),
            )
      ];
    }
      where
        long : length (values_after files values (cut_query facts n p.query p.tree)) ≡ length values + length (cut_query facts n p.query p.tree)
        long = values_length files values (cut_query facts n p.query p.tree)

        cut_long : length (cut_query facts n p.query p.tree) ≡ length (cut_tree facts n p.tree).before + 1
        cut_long = length-append (cut_tree facts n p.tree).before (closed facts p.tree (cut_tree facts n p.tree).last (answering p.query.targets p.query.unique p.query.keys) ∷ [])

  lasts_append : (ps : List Planned) (lasts : List ℕ) (n : ℕ) → (more : List ℕ) × (lasts_from known table lasts n ps ≡ lasts ++ more)
  lasts_append [] lasts n = ([], sym (append-nil lasts))
  lasts_append (p ∷ ps) lasts n =
      let last = last_next known table lasts n p in
      let rest = lasts_append ps (lasts ++ last ∷ []) (last + 1) in
      (last ∷ rest.0, rest.1 ∙ append_assoc lasts (last ∷ []) rest.0)

  -- the values of the last fragments, in order
  script_values : AscendFrom 0 known.kept → (ps : List Planned) (lasts : List ℕ) (columns : List (List LayoutColumn)) (tables : List Table) (n : ℕ) (values later : List (List (List Value))) → length values ≡ n →
      AreReady known table lasts columns n ps → Valued lasts columns tables values → PlansFit files known ps → Begins (values_after files values (cut_from known table lasts n ps)) later →
      map (value_at later) (lasts_from known table lasts n ps) ≡ map (value_at later) lasts ++ answers_from tables known.kept (length lasts) (map (λ (p : Planned). p.query) ps)
  script_values ups [] lasts columns tables n values later size ready valued fit begin = sym (append-nil (map (value_at later) lasts))
  script_values ups (p ∷ ps) lasts columns tables n values later size ready valued fit begin =
      let cut = cut_query (facts_next known table lasts p) n p.query p.tree in
      let last = last_next known table lasts n p in
      let next = values_after files values cut in
      let rest = cut_from known table (lasts ++ last ∷ []) (last + 1) ps in
      let begin2 : Begins (values_after files next rest) later = subst (λ d. Begins d later) (values_append files values cut rest) begin in
      let there : Begins next later = λ i h. begin2 i (let k = values_length files next rest in omega (arith, k, h)) ∙ values_begin files next rest i h in
      let longer = values_length files values cut in
      let much = length-append (cut_tree (facts_next known table lasts p) n p.tree).before (closed (facts_next known table lasts p) p.tree (cut_tree (facts_next known table lasts p) n p.tree).last (answering p.query.targets p.query.unique p.query.keys) ∷ []) in
      let size2 : length next ≡ last + 1 = omega (arith, longer, much, size) in
      let long = length-append lasts (last ∷ []) in
      let here = value_here lasts columns tables values p ready.0 valued fit.0 n later size there in
      let tables2 = tables_behind tables (kept_of known.kept (length lasts)) (meaning tables p.query) in
      script_values ups ps (lasts ++ last ∷ []) (columns_behind columns (kept_of known.kept (length lasts))) tables2 (last + 1) next later size2 ready.1
      (valued_next lasts columns tables values p ready.0 valued fit.0 ups n size) fit.1 begin2
      ∙ (λ i. map-append (value_at later) lasts (last ∷ []) i ++ answers_from tables2 known.kept (long i) (map (λ (x : Planned). x.query) ps))
      ∙ append_assoc (map (value_at later) lasts) (value_at later last ∷ []) (answers_from tables2 known.kept (length lasts + 1) (map (λ (x : Planned). x.query) ps))
      ∙ (λ i. map (value_at later) lasts ++ here i ∷ answers_from tables2 known.kept (length lasts + 1) (map (λ (x : Planned). x.query) ps))

-- the tables of the catalogue fit their columns

table_fits : (relations : List Relation) (db : List Table) → length db ≡ length relations → ((relation : ℕ) (here : Relation) (table : Table) → slice_get relations relation ≡ Some here → slice_get db relation ≡ Some table → AllByRecursion (IsRowOf here.columns) table.rows) →
    FitColumns (map (λ (here : Relation). map layout_column here.columns) relations) db
table_fits [] [] same h = tt
table_fits [] (t ∷ ts) same h = absurd (omega arith)
table_fits (r ∷ rs) [] same h = absurd (omega arith)
table_fits (r ∷ rs) (t ∷ ts) same h = (rows_fit t.rows (h 0 r t refl refl), table_fits rs ts (omega (arith, same)) (λ k here table a b. h (suc k) here table a b)) where
  rows_fit : (rows : List (List Value)) → AllByRecursion (IsRowOf r.columns) rows → AllByRecursion (FitsColumns (map layout_column r.columns)) rows
  rows_fit [] all = tt
  rows_fit (row ∷ rows) all = (row_fits r.columns row all.0, rows_fit rows all.1)

-- the fragments of a script that may be cut mean its queries
pub all_mean : (known : Known) (table : List (List VarStats)) (ps : List Planned) → MayCut known table ps → Mean known table ps (cut_plans known table ps)
all_mean known table ps may files db holds fit =
    let narrow = recursion_from_All (λ (here : Relation). length here.columns ≤ 32) known.relations may.narrow in
    script_values files known db holds table narrow may.files may.kept.ascending ps [] (catalog_columns known) db 0 [] (values_of files (cut_plans known table ps)) refl (all_ready known table ps may)
    (record {
      fit = table_fits known.relations db holds.each (λ relation here table a b. (holds.tables relation here table a b).are_rows);
      front = λ relation less. refl;
      right = λ k place number at is. cc;
    })
    fit (λ i h. refl)
