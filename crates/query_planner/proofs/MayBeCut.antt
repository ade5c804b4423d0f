-- The plans of a script over laid tables, and what they rest on, may be cut into fragments.
use Rattle.std.proofs.Common.{◌≡◌, ℕ, suc, ◌+◌, ◌<◌, ◌≤◌, ◌^◌, true, List, [], ◌∷◌, length, map, Option, Some, None, IfSome, refl, sym, ap, ap₂, subst, ◌∙◌, arith, inl, inr, slice_get, slice_index_or}
use Rattle.std.specs.Prelude.{All, get_or, is_some, unwrap_or}
use Rattle.std.proofs.lemmas.Bool.{cases_lt}
use Rattle.std.proofs.lemmas.Option.{get_or_from_slice_get, slice_get_within, slice_get-get_or, unwrap_or-slice_get}
use Rattle.heap_page.specs.declared.head.FileKind.{FileKind}
use Rattle.heap_page.specs.declared.head.FileKind.TheVariants as kind
use Rattle.heap_page.specs.declared.map.PageFile.{PageFile}
use Rattle.heap_page.proofs.Found.{there}
use Rattle.kept_relations.specs.declared.kept.Kept.{Kept}
use Rattle.kept_relations.specs.Fitting.{FitKept}
use Rattle.plan_tree.specs.declared.tree.Method.{Method}
use Rattle.plan_tree.specs.declared.tree.Way.{Way}
use Rattle.plan_tree.specs.declared.tree.Way.TheVariants as way
use Rattle.plan_tree.specs.Trees.{IsTree, Shape, one, scan, join}
use Rattle.plan_tree.specs.Views.{Planned}
use Rattle.rel_meaning.specs.declared.query.Var.{Var}
use Rattle.rel_meaning.specs.Expression.{Question}
use Rattle.rows.specs.declared.plain.Bound.{Bound}
use Rattle.rows.specs.declared.plain.Interval.{Interval}
use Rattle.rows.specs.declared.plain.KeyIndex.{KeyIndex}
use Rattle.rows.specs.declared.plain.Relation.{Relation}
use Rattle.seq_optimizer.specs.declared.stats.VarStats.{VarStats}
use Rattle.seq_optimizer.specs.Costs.{CanPlan, CanRead, FitsStats, IsInterval}
use Rattle.table_store.specs.declared.database.Laid.{Laid}
use Rattle.table_store.specs.declared.files.StoredIndex.{StoredIndex}
use Rattle.table_store.specs.declared.files.StoredTable.{StoredTable}
use Rattle.table_store.specs.Files.{file_number, heap_file, numbers_in, table_blocks}
use Rattle.table_store.proofs.Filed.{all_at, file_there}
use Rattle.fragments.specs.Homes as homes
use Rattle.fragments.specs.Homes.{Known, files_known, index_if, indexes_before}
use Rattle.fragments.specs.Premises.{HasFiles, HasIndexFile, HasInterval, IsIndexOf, IsWithin, MayCut, MayCutPlan, ReadsWithin, index_for, index_in}
use Rattle.query_planner.specs.Counted.{bounds_on}
use Rattle.query_planner.specs.Plans.{AreFoundOf, ArePlannedOver, ArePlansBy, IsLeft, IsPlanBy, MayCutPlans, MayPlan, relation_columns}
use Rattle.query_planner.specs.Stored.{AreOf, Stands, laid_indexes}
use Rattle.query_planner.proofs.Cutting.{index_place, same_number}
use Rattle.query_planner.proofs.Standing.{laid_index, within_all}

-- ---- the files of a laid table

-- numbers are there exactly where there is an index
same_some : (file heap_pages : ℕ) (o : Option StoredIndex) →
    is_some (numbers_in file heap_pages o) ≡ is_some o
same_some file heap_pages None = refl
same_some file heap_pages (Some index) = refl

some_there : {X : Type 0} (o : Option X) → is_some o ≡ true → (x : X) × (o ≡ Some x)
some_there None e = absurd cc
some_there (Some x) e = (x, refl)

module _ (relations : List Relation) (rows : List ℕ) (laid : Laid) (drives : ℕ)
    (tables : List StoredTable) (are : AreOf relations rows laid drives tables) (kept : List Kept)
  where
    abbrev known : Known
    known = files_known relations laid.map (laid_indexes laid) kept

    -- a laid index is there exactly where its relation has one
    agree : (i : ℕ) (r : Relation) (o : Option KeyIndex) → slice_get relations i ≡ Some r →
        slice_get laid.indexes.items i ≡ Some o → is_some o ≡ is_some r.index
    agree i r o at_r at_o =
        let table = there tables i (let low = slice_get_within relations i r at_r in omega
        (arith, low, are.count)) in
        ap is_some (are.stand.indexes i table.0 o table.1 at_o) ∙
        same_some (file_number tables i + 1) (length (table_blocks table.0)) table.0.index ∙
        are.indexed i r table.0 at_r table.1

    -- the index of a relation that has one
    place_of : (i : ℕ) (r : Relation) (index : KeyIndex) → slice_get relations i ≡ Some r →
        slice_get laid.indexes.items i ≡ Some (Some index) →
        slice_get (laid_indexes laid) (indexes_before relations i) ≡ Some index
    place_of = index_place relations laid.indexes.items agree

    module _ (i : ℕ) (here : Relation) (at : slice_get relations i ≡ Some here) where
      low : i < length relations
      low = slice_get_within relations i here at

      number : homes.heap_file relations i ≡ file_number tables i
      number = same_number relations tables are.count are.indexed i low

      -- its heap file is that of its table
      heap_there : (table : StoredTable) → slice_get tables i ≡ Some table →
          slice_get laid.map.files.items (homes.heap_file relations i) ≡ Some (heap_file table)
      heap_there table at_t =
          ap (slice_get laid.map.files.items) number ∙
          ap (λ (fs : List PageFile). slice_get fs (file_number tables i)) are.stand.of.files ∙
          file_there tables i table at_t

      few_pages : (table : StoredTable) → slice_get tables i ≡ Some table →
          length (table_blocks table) < 2 ^ 32
      few_pages table at_t =
          omega (
            arith,
            within_all laid.map.files.items (homes.heap_file relations i)
                (heap_file table) (heap_there table at_t),
            are.stand.of.is_map.small,
          )

      -- the index of its table
      is_index : (column : ℕ) (table : StoredTable) (index : KeyIndex) →
          column < length here.columns →
          slice_get tables i ≡ Some table → slice_get laid.indexes.items i ≡ Some (Some index) →
          IsIndexOf known (homes.heap_file relations i) (length here.columns) column index
      is_index column table index within at_t at_i =
          let l = laid_index tables drives laid i table index are.stand at_t at_i in
          let file : index.file ≡ file_number tables i + 1 = ap (λ (k : KeyIndex). k.file)
          l.over.numbers in
          let pages : index.heap_pages ≡ length (table_blocks table) = ap
          (λ (k : KeyIndex). k.heap_pages) l.over.numbers in
          record {
            column_there = within;
            next_file = file ∙ ap (λ n. n + 1) (sym number);
            pages = l.file_there.1 ∙ page_file l.file_there.0 kind.Index index.pages l.file_there.2
                l.file_there.3;
            heap_pages = heap_there table at_t ∙
                ap (λ (n : ℕ). Some (record { kind = kind.Heap; pages = n })) (sym pages);
            some_pages = λ some. (l.usable some).0;
            some_levels = λ some. (l.usable some).1;
          }
        where
          page_file : (f : PageFile) (k : FileKind) (n : ℕ) → f.kind ≡ k → f.pages ≡ n →
              Some f ≡ Some (record { kind = k; pages = n })
          page_file f k n e g = λ j. Some (record { kind = e j; pages = g j })

      option_there : (o : Option ℕ) → here.index ≡ o →
          IfSome o (λ column. column < length here.columns) →
          HasIndexFile known i here o
      option_there None e within = tt
      option_there (Some column) e within =
          let table = there tables i (omega (arith, low, are.count)) in
          let found = there laid.indexes.items i
          (omega (arith, low, are.count, are.stand.index_count)) in
          let index = some_there found.0 (agree i here found.0 at found.1 ∙ ap is_some e) in
          let at_i : slice_get laid.indexes.items i ≡ Some (Some index.0) = found.1 ∙
          ap Some index.1 in (
            index.0,
            place_of i here index.0 at at_i,
            is_index column table.0 index.0 within table.1
                at_i,
          )

      -- a relation of the catalogue has its files
      pub files_there : IfSome here.index (λ column. column < length here.columns) →
          HasFiles known i here
      files_there within =
          let table = there tables i (omega (arith, low, are.count)) in
          record {
            heap_pages = length (table_blocks table.0);
            few = few_pages table.0 table.1;
            heap = heap_there table.0 table.1;
            index = option_there here.index refl within;
          }

    -- ---- the intervals of a plan

    module _ (image : Option (ℕ → ℕ → List ℕ)) (qs : List Question) (table : List (List VarStats))
        (q : Question) (stats : List VarStats)
        (found : AreFoundOf relations laid image kept qs table q stats) where
      -- an interval of an index that is there, and that lies within its entries
      abbrev Within : Option KeyIndex → Interval → Type 0
      Within o interval = (index : KeyIndex) × (o ≡ Some index) × (interval.from ≤ interval.upto) ×
          (interval.upto ≤ index.entries)

      none_some : (interval : Interval) → ◌≡◌ {A = Option Interval} None (Some interval) → ⊥
      none_some interval e = cc

      some_same : (a b : Interval) → ◌≡◌ {A = Option Interval} (Some a) (Some b) → a ≡ b
      some_same a b e = cc

      -- an interval that bounds leave is such a one
      left_within : (bounds : List Bound) (o : Option KeyIndex) (interval : Interval)
          (got : Option Interval) →
          got ≡ Some interval → IsLeft image bounds o got → Within o interval
      left_within [] o interval got e left = absurd (none_some interval (sym left ∙ e))
      left_within (b ∷ bs) None interval got e left = absurd (none_some interval (sym left ∙ e))
      left_within (b ∷ bs) (Some index) interval got e left =
          let same = some_same left.0 interval (sym left.1 ∙ e) in (
            index,
            refl,
            subst (λ (x : Interval). x.from ≤ x.upto) same left.2,
            subst
                (λ (x : Interval). x.upto ≤ index.entries) same left.3,
          )

      -- the interval of a variable is one of the index of the variable's relation
      pub record IsOfIndex (v : ℕ) (interval : Interval) : Type 0 where
        pub index : KeyIndex
        pub is : index_for known (slice_get q.vars v) ≡ Some index
        pub begins : interval.from ≤ interval.upto
        pub ends : interval.upto ≤ index.entries
        pub usable : 0 < index.entries → (0 < index.pages) × (0 < index.height)

      of_column : (v : ℕ) (var : Var) (here : Relation) (index : KeyIndex) (column : Option ℕ) →
          slice_get q.vars v ≡ Some var → slice_get relations var.relation ≡ Some here →
          here.index ≡ column → is_some column ≡ true →
          slice_get (laid_indexes laid) (indexes_before relations var.relation) ≡ Some index →
          index_for known (slice_get q.vars v) ≡ Some index
      of_column v var here index None at_v at_r e some at = cc
      of_column v var here index (Some column) at_v at_r e some at =
          ap (index_for known) at_v ∙ ap (index_in known var.relation) at_r ∙
          ap (index_if (laid_indexes laid) (indexes_before relations var.relation)) e ∙ at

      -- where the variable's relation is one of the catalogue
      of_relation : (v : ℕ) (interval : Interval) (s : VarStats) (var : Var) (here : Relation) →
          slice_get stats v ≡ Some s → slice_get q.vars v ≡ Some var →
          slice_get relations var.relation ≡ Some here → s.interval ≡ Some interval →
          IsOfIndex v interval
      of_relation v interval s var here at_s at_v at_r e =
          let i = var.relation in
          let low = slice_get_within relations i here at_r in
          let option = there laid.indexes.items i
          (omega (arith, low, are.count, are.stand.index_count)) in
          let in_table = there tables i (omega (arith, low, are.count)) in
          let left = found.left v var here option.0 s at_v at_r option.1 at_s in
          let within = left_within (bounds_on here.index v q) option.0 interval s.interval e left in
          let index = within.0 in
          let at_i : slice_get laid.indexes.items i ≡ Some (Some index) = option.1 ∙
          ap Some within.1 in
          let l = laid_index tables drives laid i in_table.0 index are.stand in_table.1 at_i in
          record {
            index = index;
            is = of_column v var here index here.index at_v at_r refl
                (sym (agree i here (Some index) at_r at_i)) (place_of i here index at_r at_i);
            begins = within.2;
            ends = within.3;
            usable = l.usable;
          }

      of_entry : (v : ℕ) (interval : Interval) (s : VarStats) → slice_get stats v ≡ Some s →
          s.interval ≡ Some interval → IsOfIndex v interval
      of_entry v interval s at_s e =
          let low = slice_get_within stats v s at_s in
          let var = there q.vars v (omega (arith, low, found.each)) in
          elim (cases_lt var.0.relation (length relations)) [
            | inl named ↦ (
                let here = there relations var.0.relation named in
                of_relation v interval s var.0 here.0 at_s var.1 here.1 e)
            | inr behind ↦ absurd (none_some interval
                (sym (found.of_kept v var.0 s var.1 behind at_s).interval ∙ e))
          ]

      none : VarStats
      none = record { pages = 0; rows = 0; interval = None; height = 0 }

      -- the interval that the stats hold for a variable
      of_stats : (v : ℕ) (interval : Interval) → CanRead stats v (way.Index interval) →
          IsOfIndex v interval
      unfolding none
      of_stats v interval h = by (slice_get stats v) refl where
        by : (o : Option VarStats) → slice_get stats v ≡ o → IsOfIndex v interval
        by None at =
            let gone : (slice_index_or stats v none).interval ≡ None = ap
            (λ (x : VarStats). x.interval)
            (sym (unwrap_or-slice_get stats v none) ∙ ap (λ o. unwrap_or o none) at) in
            absurd (none_some interval (sym gone ∙ h))
        by (Some s) at = of_entry v interval s at
            (ap (λ (x : VarStats). x.interval) (sym (get_or_from_slice_get stats v s none at)) ∙ h)

      scans_within : (v : ℕ) (how : Way) → CanRead stats v how →
          IsWithin (index_for known (slice_get q.vars v)) how
      scans_within v way.Heap h = tt
      scans_within v (way.Index interval) h =
          let of = of_stats v interval h in
          subst (λ o. HasInterval o interval) (sym of.is) (record {
            begins = of.begins;
            within = of.ends;
            pages = λ some. (of.usable some).0;
            levels = λ some. (of.usable some).1;
          })

      -- each index scan of a tree that fits the stats
      reads_within : (t : Shape) → FitsStats stats t → ReadsWithin known q t
      reads_within (one tests) fits = tt
      reads_within (scan v how tests) fits = scans_within v how fits
      reads_within (join m a b keys tests) fits = (reads_within a fits.0, reads_within b fits.1)

      -- no interval of the stats ends before it begins
      intervals : All (λ (s : VarStats). IfSome s.interval IsInterval) stats
      intervals k d lt = by (get_or stats k d).interval refl where
        by : (o : Option Interval) → (get_or stats k d).interval ≡ o → IfSome o IsInterval
        by None e = tt
        by (Some interval) e =
            (of_entry k interval (get_or stats k d) (slice_get-get_or stats k d lt)
            e).begins

      pub plan_cut : (m : Method) (p : Planned) → IsPlanBy m q stats p → length q.vars ≤ 6 →
          All (λ key. key.column < length q.targets) q.keys → MayCutPlan known stats p
      plan_cut m p is few keys =
          let asked : q ≡ p.query = sym is.query in
          record {
            tree = (m, subst (λ (x : Question). IsTree x m p.tree) asked is.best.tree);
            plan = subst (λ (x : Question). CanPlan x stats) asked
                (record { few = few; each = found.each; intervals = intervals });
            keys = subst (λ (x : Question). All (λ key. key.column < length x.targets) x.keys) asked
                keys;
            intervals = subst (λ (x : Question). ReadsWithin known x p.tree) asked
                (reads_within p.tree is.best.fits);
          }

-- the queries of plans
planned_queries : (m : Method) (qs : List Question) (table : List (List VarStats))
    (ps : List Planned) →
    length table ≡ length qs → ArePlansBy m qs table ps → map (λ (p : Planned). p.query) ps ≡ qs
planned_queries m [] table [] count h = refl
planned_queries m [] table (p ∷ ps) count h = absurd (let c = h.count in omega (arith, c))
planned_queries m (q ∷ qs) table [] count h = absurd (let c = h.count in omega (arith, c))
planned_queries m (q ∷ qs) [] (p ∷ ps) count h = absurd (omega (arith, count))
planned_queries m (q ∷ qs) (s ∷ table) (p ∷ ps) count h =
    ap₂ (λ (x : Question) (xs : List Question). x ∷ xs) (h.each 0 q s p refl refl refl).query
    (planned_queries m qs table ps (omega (arith, count)) (record {
      count = (let c = h.count in omega (arith, c));
      each = λ i x y z at_x at_y at_z. h.each (suc i) x y z at_x at_y at_z;
    }))

-- plans and stats over laid tables, whatever the drives tell, may be cut
pub may_be_cut : (relations : List Relation) (rows : List ℕ) (laid : Laid) (drives : ℕ)
    (kept : List Kept) (image : Option (ℕ → ℕ → List ℕ)) (m : Method) (qs : List Question)
    (table : List (List VarStats)) (ps : List Planned) → Stands relations rows laid drives →
    MayPlan relations kept qs → MayCutPlans relations kept qs →
    ArePlannedOver relations laid image kept m qs table ps →
    MayCut (files_known relations laid.map (laid_indexes laid) kept) table ps
may_be_cut relations rows laid drives kept image m qs table ps stands may cut h =
    let are = stands.are in
    let asked = planned_queries m qs table ps h.stats.count h.plans in
    record {
      few = omega (arith, cut.few, h.plans.count);
      stats = h.stats.count ∙ sym h.plans.count;
      relations = omega (arith, are.few, are.count);
      narrow = cut.narrow;
      files = λ i here at. files_there relations rows laid drives stands.tables are kept i here at
          (all_at (λ (r : Relation). IfSome r.index (λ column. column < length r.columns)) relations
          i here cut.indexed at);
      kept = subst (λ (xs : List Question). FitKept (relation_columns relations) kept xs)
          (sym asked) may.fits;
      bounds = cut.bounds;
      plans = λ i p stats at_p at_s.
          let q = there qs i (let low = slice_get_within ps i p at_p in omega
          (arith, low, h.plans.count)) in
          plan_cut relations rows laid drives stands.tables are kept image qs table q.0 stats
          (h.stats.queries i q.0 stats q.1 at_s) m p (h.plans.each i q.0 stats p q.1 at_s at_p)
          (all_at (λ (x : Question). length x.vars ≤ 6) qs i q.0 may.few q.1)
          (all_at (λ (x : Question). All (λ key. key.column < length x.targets) x.keys) qs i q.0
          cut.keys q.1);
    }
