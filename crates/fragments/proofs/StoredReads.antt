-- What a scan reads of the stored files of tables.
use Rattle.std.proofs.Common.{◌≡◌, ℕ, ◌+◌, ◌-◌, ◌<◌, ◌≤◌, Bool, true, false, ◌==◌, List, [], ◌∷◌, ◌++◌, length, map, take, drop, Option, Some, None, refl, sym, ap, ◌∙◌, subst, arith, slice_get}
use Rattle.std.specs.Prelude.{⊤, All}
use Rattle.std.specs.List.{flat_map, AllByRecursion, range_with_len}
use Rattle.std.specs.Option.{option_to_list}
use Rattle.rows.specs.declared.value.Value.{Value}
use Rattle.rows.specs.declared.plain.Interval.{Interval}
use Rattle.rows.specs.declared.plain.KeyIndex.{KeyIndex}
use Rattle.rows.specs.declared.plain.LayoutColumn.{LayoutColumn}
use Rattle.rows.specs.declared.plain.LayoutPart.{LayoutPart}
use Rattle.rows.specs.declared.plain.Relation.{Relation}
use Rattle.rows.specs.Layouts.{one_part}
use Rattle.heap_page.specs.declared.map.PageFile.{PageFile}
use Rattle.heap_page.specs.declared.head.FileKind.TheVariants as kind
use Rattle.rel_meaning.specs.declared.query.Table.{Table}
use Rattle.rel_meaning.specs.declared.query.Var.{Var}
use Rattle.rel_meaning.specs.Expression.{Expression, Question}
use Rattle.rel_meaning.specs.Meaning.{layout_column, rows_at, rows_of}
use Rattle.plan_tree.specs.declared.tree.Way.{Way}
use Rattle.plan_tree.specs.declared.tree.Way.TheVariants as way
use Rattle.plan_tree.specs.Assignments.{rows_for, rows_if}
use Rattle.plan_tree.specs.Conjuncts.{conjuncts}
use Rattle.plan_tree.specs.Fragments.{Stored, entry_row, page_items, rows_in}
use Rattle.plan_tree.specs.Intervals.{interval_end, interval_rows, key_in, lower_end}
use Rattle.plan_tree.specs.Rows.{kept}
use Rattle.plan_tree.specs.Trees.{scan, scan_tests}
use Rattle.plan_tree.proofs.IndexReads.{index_reads}
use Rattle.plan_tree.proofs.Positions.{entries_read, pages_read}
use Rattle.plan_tree.proofs.Sums.{Same, total}
use Rattle.plan_tree.proofs.TreeAnswers.{sums_of}
use Rattle.seq_optimizer.specs.Bounds.{bounds_of}
use Rattle.kept_relations.specs.declared.kept.Kept.{Kept}
use Rattle.fragments.specs.Homes.{Home, Known, Store, columns_in, heap_file, home_for, home_if, home_of, index_if, indexes_before, kept_home, made, made_by, nowhere, stored, stored_if}
use Rattle.fragments.specs.Laws.{HoldTables, HoldsTable, IsLeft, ReadsLeft, entry_rows}
use Rattle.fragments.specs.Premises.{HasFiles}
use Rattle.seq_optimizer.proofs.BoundsSet.{bounds_set}
use Rattle.fragments.proofs.Formed.{less_of}
use Rattle.fragments.proofs.Standing.{all_at, some_at}
use Rattle.fragments.proofs.TreeValues.{home_rows, index_rows, store_rows}

module _ (files : Stored) (known : Known) (db : List Table) (holds : HoldTables files known db)
    (narrow : AllByRecursion (λ (here : Relation). length here.columns ≤ 32) known.relations) where
  -- a relation of the catalogue whose heap file is this one
  module _ (relation : ℕ) (here : Relation) (at : slice_get known.relations relation ≡ Some here) (table : Table) (there : slice_get db relation ≡ Some table) (file : PageFile) (in_file : slice_get known.files (heap_file known.relations relation) ≡ Some file) where
    abbrev heap : ℕ
    heap = heap_file known.relations relation

    abbrev held : HoldsTable files known relation here table
    held = holds.tables relation here table at there

    heap_read : flat_map (λ p. rows_in here.columns (page_items files heap p)) (range_with_len 0 file.pages) ≡ table.rows
    heap_read =
        ap (λ n. flat_map (λ p. rows_in here.columns (page_items files heap p)) (range_with_len 0 n)) (sym (held.pages file in_file))
        ∙ pages_read here.columns files heap table.rows holds.bytes (all_at (λ (r : Relation). length r.columns ≤ 32) known.relations relation here narrow at) held.are_rows held.items

    index_read : (q : Question) (v column : ℕ) (index : KeyIndex) (interval : Interval) (root : Bool) → here.index ≡ Some column → slice_get known.indexes (indexes_before known.relations relation) ≡ Some index →
        IsLeft files known q v relation here column index interval →
        Same (kept (one_part v (map layout_column here.columns)) (scan_tests root (λ u. v == u) (conjuncts q.test)) (flat_map (λ p. option_to_list (entry_row files here.columns heap index.file (interval.from + p))) (range_with_len 0 (interval.upto - interval.from))))
        (kept (one_part v (map layout_column here.columns)) (scan_tests root (λ u. v == u) (conjuncts q.test)) table.rows)
    index_read q v column index interval root e f left =
        let layout = one_part v (map layout_column here.columns) in
        let tests = scan_tests root (λ u. v == u) (conjuncts q.test) in
        let bounds = bounds_of v column (conjuncts q.test) in
        let has = held.entries column index e f in
        let entries = entry_rows files here.columns heap index in
        let read = entries_read here.columns files heap index.file entries has.lead interval.from (interval.upto - interval.from) in
        let as_interval : flat_map (λ p. option_to_list (entry_row files here.columns heap index.file (interval.from + p))) (range_with_len 0 (interval.upto - interval.from)) ≡ interval_rows layout v column bounds entries =
        read ∙ (λ i. take (left.upto i - left.from i) (drop (left.from i) entries)) in
        subst (λ rows. Same (kept layout tests rows) (kept layout tests table.rows)) (sym as_interval)
        (sums_of (kept layout tests (interval_rows layout v column bounds entries)) (kept layout tests table.rows)
        (index_reads layout v column tests bounds table.rows entries left.some (bounds_set v column root (conjuncts q.test)) (has.are v)))

  -- what the scan of a variable keeps is what it keeps of the rows of its relation
  module _ (tables : List Table) (front : (relation : ℕ) → relation < length db → slice_get tables relation ≡ slice_get db relation) (lasts : List ℕ) (q : Question) (root : Bool) where
    abbrev tests_of : ℕ → List Expression
    tests_of v = scan_tests root (λ u. v == u) (conjuncts q.test)

    abbrev Reads : ℕ → Home → List (List Value) → Way → Type 0
    Reads v home rows how = Same (kept (one_part v (columns_in home)) (tests_of v) (home_rows files home rows how)) (kept (one_part v (columns_in home)) (tests_of v) rows)

    -- by a whole heap file
    heap_same : (v relation : ℕ) (here : Relation) → slice_get known.relations relation ≡ Some here → (file : PageFile) → slice_get known.files (heap_file known.relations relation) ≡ Some file →
        Same (kept (one_part v (map layout_column here.columns)) (tests_of v) (flat_map (λ p. rows_in here.columns (page_items files (heap_file known.relations relation) p)) (range_with_len 0 file.pages)))
        (kept (one_part v (map layout_column here.columns)) (tests_of v) (rows_of tables relation))
    heap_same v relation here at file e f =
        let less : relation < length db = (let k = less_of known.relations relation here at in omega (arith, k, holds.each)) in
        let table = some_at db relation less in
        let rows : rows_of tables relation ≡ table.0.rows = ap rows_at (front relation less ∙ table.1) in
        ap (λ xs. total f (kept (one_part v (map layout_column here.columns)) (tests_of v) xs)) (heap_read relation here at table.0 table.1 file e ∙ sym rows)

    in_file : (v relation : ℕ) (here : Relation) → slice_get known.relations relation ≡ Some here → (how : Way) →
        ((interval : Interval) → how ≡ way.Index interval → (column : ℕ) (index : KeyIndex) → here.index ≡ Some column → slice_get known.indexes (indexes_before known.relations relation) ≡ Some index → IsLeft files known q v relation here column index interval) →
        (o : Option PageFile) → slice_get known.files (heap_file known.relations relation) ≡ o → Reads v (stored_if known relation here o) (rows_of tables relation) how
    in_file v relation here at how left None e f = refl
    in_file v relation here at way.Heap left (Some file) e f = heap_same v relation here at file e f
    in_file v relation here at (way.Index interval) left (Some file) e g = by here.index refl g where
      at_place : (column : ℕ) → here.index ≡ Some column → (o : Option KeyIndex) → slice_get known.indexes (indexes_before known.relations relation) ≡ o →
          Same (kept (one_part v (map layout_column here.columns)) (tests_of v) (index_rows files (record { columns = here.columns; heap_file = heap_file known.relations relation; pages = file.pages; index = o }) o interval))
          (kept (one_part v (map layout_column here.columns)) (tests_of v) (rows_of tables relation))
      at_place column c None k = heap_same v relation here at file e
      at_place column c (Some index) k =
          let less : relation < length db = (let l = less_of known.relations relation here at in omega (arith, l, holds.each)) in
          let table = some_at db relation less in
          let rows : rows_of tables relation ≡ table.0.rows = ap rows_at (front relation less ∙ table.1) in
          subst (λ xs. Same (kept (one_part v (map layout_column here.columns)) (tests_of v) (flat_map (λ p. option_to_list (entry_row files here.columns (heap_file known.relations relation) index.file (interval.from + p))) (range_with_len 0 (interval.upto - interval.from)))) (kept (one_part v (map layout_column here.columns)) (tests_of v) xs)) (sym rows)
          (index_read relation here at table.0 table.1 file e q v column index interval root c k (left interval refl column index c k))

      by : (o : Option ℕ) → here.index ≡ o →
          Same (kept (one_part v (map layout_column here.columns)) (tests_of v) (index_rows files (record { columns = here.columns; heap_file = heap_file known.relations relation; pages = file.pages; index = index_if known.indexes (indexes_before known.relations relation) o }) (index_if known.indexes (indexes_before known.relations relation) o) interval))
          (kept (one_part v (map layout_column here.columns)) (tests_of v) (rows_of tables relation))
      by None c = heap_same v relation here at file e
      by (Some column) c = at_place column c (slice_get known.indexes (indexes_before known.relations relation)) refl

    by_number : (v relation : ℕ) (how : Way) (k : Kept) (o : Option ℕ) → Reads v (made_by k o) (rows_of tables relation) how
    by_number v relation how k None f = refl
    by_number v relation how k (Some number) f = refl

    by_kept : (v relation : ℕ) (how : Way) (o : Option Kept) → Reads v (kept_home lasts o) (rows_of tables relation) how
    by_kept v relation how None f = refl
    by_kept v relation how (Some k) f = by_number v relation how k (slice_get lasts k.statement) f

    left_of : (v : ℕ) (how : Way) (var : Var) (here : Relation) → slice_get q.vars v ≡ Some var → slice_get known.relations var.relation ≡ Some here → ReadsLeft files known q (scan v how (tests_of v)) →
        (interval : Interval) → how ≡ way.Index interval → (column : ℕ) (index : KeyIndex) → here.index ≡ Some column → slice_get known.indexes (indexes_before known.relations var.relation) ≡ Some index → IsLeft files known q v var.relation here column index interval
    left_of v way.Heap var here e at h interval is column index c k = cc
    left_of v (way.Index i) var here e at h interval is column index c k = let same : i ≡ interval = cc in subst (λ x. IsLeft files known q v var.relation here column index x) same (h var here column index e at c k)

    var_reads : (v : ℕ) (how : Way) (var : Var) → slice_get q.vars v ≡ Some var → ReadsLeft files known q (scan v how (tests_of v)) → Reads v (home_of known lasts var.relation) (rows_of tables var.relation) how
    var_reads v how var e h = by (slice_get known.relations var.relation) refl where
      by : (o : Option Relation) → slice_get known.relations var.relation ≡ o → Reads v (home_if known lasts var.relation o) (rows_of tables var.relation) how
      by None at = by_kept v var.relation how (slice_get known.kept (var.relation - length known.relations))
      by (Some here) at = in_file v var.relation here at how (left_of v how var here e at h) (slice_get known.files (heap_file known.relations var.relation)) refl

    pub scan_reads : (v : ℕ) (how : Way) → ReadsLeft files known q (scan v how (scan_tests root (λ u. v == u) (conjuncts q.test))) →
        Same (kept (one_part v (columns_in (home_for known lasts (slice_get q.vars v)))) (scan_tests root (λ u. v == u) (conjuncts q.test)) (home_rows files (home_for known lasts (slice_get q.vars v)) (rows_for tables q.vars v) how))
        (kept (one_part v (columns_in (home_for known lasts (slice_get q.vars v)))) (scan_tests root (λ u. v == u) (conjuncts q.test)) (rows_for tables q.vars v))
    scan_reads v how h = by (slice_get q.vars v) refl where
      by : (o : Option Var) → slice_get q.vars v ≡ o → Reads v (home_for known lasts o) (rows_if tables o) how
      by None e f = refl
      by (Some var) e f = var_reads v how var e h f
