-- What every tree of a query that fits the counted stats gives.
use Rattle.std.proofs.Common.{◌≡◌, ℕ, suc, zero, ◌-◌, ◌<◌, ◌≤◌, Bool, true, false, not, ◌==◌, nat_lt, List, [], ◌∷◌, ◌++◌, length, inl, inr, map, take, drop, Option, Some, None, IfSome, refl, sym, ap, subst, ◌∙◌, arith, eq-eqb, lt-ltb, slice_get, slice_index_or}
use Rattle.std.specs.Prelude.{unwrap_or}
use Rattle.std.specs.List.{AllByRecursion, filter}
use Rattle.std.proofs.lemmas.Bool.{cases_lt}
use Rattle.std.proofs.lemmas.List.{drop-map, length-map, take-map}
use Rattle.std.proofs.lemmas.List.Elements.{recursion_from_All}
use Rattle.std.proofs.lemmas.Option.{get_or_from_slice_get, slice_get_within, unwrap_or-slice_get}
use Rattle.lists.specs.Arranged.{Ascends}
use Rattle.rows.specs.declared.plain.Bound.{Bound}
use Rattle.rows.specs.declared.plain.Column.{Column}
use Rattle.rows.specs.declared.plain.Interval.{Interval}
use Rattle.rows.specs.declared.plain.KeyEntry.{KeyEntry}
use Rattle.rows.specs.declared.plain.LayoutPart.{LayoutPart}
use Rattle.rows.specs.declared.plain.Relation.{Relation}
use Rattle.rows.specs.declared.value.Value.{Value}
use Rattle.rows.specs.RowBytes.{IsRowOf, row_bytes}
use Rattle.rows.specs.Values.{value_cmp, is_null}
use Rattle.heap_page.specs.Blocks.{blocks_of, item_weight, joined}
use Rattle.heap_page.proofs.Cut.{are_blocks}
use Rattle.kept_relations.specs.declared.kept.Kept.{Kept}
use Rattle.key_index.specs.Intervals.{interval_of}
use Rattle.rel_meaning.specs.declared.query.Table.{Table}
use Rattle.rel_meaning.specs.declared.query.Var.{Var}
use Rattle.rel_meaning.specs.Expression.{Expression, Question}
use Rattle.rows.specs.Layouts.{column_place, value_at, one_part}
use Rattle.rel_meaning.specs.Meaning.{IsResolved, columns_at, layout_column, meaning, rows_at}
use Rattle.plan_tree.specs.declared.tree.Method.{Method}
use Rattle.plan_tree.specs.declared.tree.Way.{Way}
use Rattle.plan_tree.specs.declared.tree.Way.TheVariants as way
use Rattle.plan_tree.specs.Assignments.{columns_if, rows_if}
use Rattle.plan_tree.specs.Conjuncts.{conjuncts}
use Rattle.plan_tree.specs.Intervals.{AreEntries, Sets, interval_end, interval_rows, key_in, lower_end}
use Rattle.plan_tree.specs.Rows.{kept}
use Rattle.plan_tree.specs.TreeLaws.{SameRows, ScanReads, tree_answer}
use Rattle.plan_tree.specs.Trees.{IsPlaced, IsTree, Shape, join, one, scan, scan_tests}
use Rattle.plan_tree.proofs.Elements.{all_drop, all_map, all_take}
use Rattle.plan_tree.proofs.IndexReads.{index_reads}
use Rattle.plan_tree.proofs.TreeAnswers.{answers}
use Rattle.plan_tree.proofs.Typing.{get_left}
use Rattle.seq_optimizer.specs.declared.stats.VarStats.{VarStats}
use Rattle.seq_optimizer.specs.Bounds.{bounds_of}
use Rattle.seq_optimizer.specs.Costs.{CanRead, FitsStats}
use Rattle.table_store.specs.declared.files.StoredIndex.{StoredIndex}
use Rattle.table_store.specs.declared.files.StoredTable.{StoredTable}
use Rattle.table_store.specs.Databases.{AreStored, IsIndexed, IsStored, IsTableOf, MayStore}
use Rattle.table_store.specs.Entries.{IsIndexOf}
use Rattle.table_store.specs.Files.{table_blocks}
use Rattle.query_planner.specs.Counted.{AreStatsOf, bounds_on, interval_in}
use Rattle.query_planner.specs.Reading.{entries_in, entry_rows, index_rows, read_by, table_rows, var_rows}
use Rattle.query_planner.proofs.EntryRows.{Leads, entries_lead, keys_are, row_of, rows_are, rows_ascend, same_rows}
use Rattle.query_planner.proofs.Ranks.{end_agrees, keys_in, lower_agrees}
use Rattle.seq_optimizer.proofs.BoundsSet.{bounds_set}

-- an element below the length is there
there : {X : Type 0} (xs : List X) (i : ℕ) → i < length xs → (x : X) × (slice_get xs i ≡ Some x)
there [] i h = absurd (omega arith)
there (x ∷ xs) zero h = (x, refl)
there (x ∷ xs) (suc i) h = there xs i (omega arith)

-- ---- the items of a stored table

stored_items : (relation : Relation) (table : Table) (stored : StoredTable) → IsTableOf relation table → IsStored relation table stored → joined (table_blocks stored) ≡ map (row_bytes table.columns) table.rows
stored_items relation table stored of is = ap (λ items. joined (blocks_of item_weight 8172 items)) is.items ∙ (are_blocks item_weight 8172 (map (row_bytes table.columns) table.rows) light).same where
  light : AllByRecursion (λ item. item_weight item ≤ 8172) (map (row_bytes table.columns) table.rows)
  light = all_map (λ row. length (row_bytes table.columns row) ≤ 8168) (λ item. item_weight item ≤ 8172) (row_bytes table.columns) (λ row h. omega (arith, h)) table.rows
      (recursion_from_All (λ row. length (row_bytes table.columns row) ≤ 8168) table.rows of.short.1)

-- ---- the scan of an index

module _ (v k : ℕ) (columns : List Column) (lt : k < length columns) (few : length columns ≤ 32) (blocks : List (List (List ℕ))) (rows : List (List Value))
    (are : AllByRecursion (IsRowOf columns) rows) (items : joined blocks ≡ map (row_bytes columns) rows) (entries : List KeyEntry) (index : IsIndexOf k rows blocks entries) where
  abbrev layout : List LayoutPart
  layout = one_part v (map layout_column columns)

  place_is : column_place layout v k ≡ Some k
  place_is =
      let self : (v == v) ≡ true = eq-eqb v v refl in
      let within : nat_lt k (length (map layout_column columns)) ≡ true = lt-ltb k (length (map layout_column columns)) (omega (arith, lt, length-map columns layout_column)) in
      rw (self, within) refl

  -- the rows to which all entries lead
  abbrev found : List (List Value)
  found = map (row_of columns k blocks) entries

  -- the rows of the entries are those with a key, in ascending order of it, where the key stands at this place
  abbrev Entries : Option ℕ → Type 0
  Entries place = SameRows found (filter (λ row. not (is_null (value_at row place))) rows) × Ascends (λ a b. value_cmp (value_at a place) (value_at b place)) found

  are_entries : AreEntries layout v k rows found
  are_entries =
      let both : Entries (column_place layout v k) = subst Entries (sym place_is)
      (same_rows columns k blocks few rows are items entries index, rows_ascend columns k blocks entries (entries_lead columns k blocks few rows are items entries index) index.ordered) in
      record { same = both.0; ascend = both.1 }

  found_keys : map (key_in layout v k) found ≡ keys_in entries
  found_keys = (λ i. map (λ row. value_at row (place_is i)) found) ∙ keys_are columns k blocks entries (entries_lead columns k blocks few rows are items entries index)

  rows_between : (from upto : ℕ) → take (upto - from) (drop from found) ≡ entry_rows columns blocks (take (upto - from) (drop from entries))
  rows_between from upto =
      ap (take (upto - from)) (drop-map (row_of columns k blocks) from entries)
      ∙ take-map (row_of columns k blocks) (upto - from) (drop from entries)
      ∙ sym (rows_are columns k blocks (take (upto - from) (drop from entries))
      (all_take (Leads columns k blocks) (upto - from) (drop from entries) (all_drop (Leads columns k blocks) from entries (entries_lead columns k blocks few rows are items entries index))))

  interval_is : (bs : List Bound) → interval_rows layout v k bs found ≡ entry_rows columns blocks (entries_in (interval_of bs entries) entries)
  interval_is bs =
      (λ i. take (interval_end bs (found_keys i) - lower_end bs (found_keys i)) (drop (lower_end bs (found_keys i)) found))
      ∙ (λ i. take (end_agrees bs entries i - lower_agrees bs entries i) (drop (lower_agrees bs entries i) found))
      ∙ rows_between (interval_of bs entries).from (interval_of bs entries).upto

  -- the entries that bounds leave lead to the rows that pass the tests which set these bounds
  pub entries_scan : (tests : List Expression) (bs : List Bound) (interval : Interval) → 0 < length bs → AllByRecursion (Sets tests v k) bs → interval_of bs entries ≡ interval →
      SameRows (kept layout tests (entry_rows columns blocks (entries_in interval entries))) (kept layout tests rows)
  entries_scan tests bs interval some all e =
      subst (λ scanned. SameRows (kept layout tests scanned) (kept layout tests rows)) (interval_is bs ∙ ap (λ (i : Interval). entry_rows columns blocks (entries_in i entries)) e)
      (index_reads layout v k tests bs rows found some all are_entries)

-- ---- the scans of a query

module _ (q : Question) where
  abbrev cs : List Expression
  cs = conjuncts q.test

  module _ (v : ℕ) (root : Bool) (interval : Interval) (relation : Relation) (table : Table) (stored : StoredTable) (of : IsTableOf relation table) (is : IsStored relation table stored) where
    -- the tests of the variable's scan
    abbrev own : List Expression
    own = scan_tests root (λ u. v == u) cs

    abbrev Scans : Option StoredIndex → Type 0
    Scans p = SameRows (kept (one_part v (map layout_column table.columns)) own (index_rows table.columns stored interval p)) (kept (one_part v (map layout_column table.columns)) own table.rows)

    with_bounds : (k : ℕ) (index : StoredIndex) → k < length table.columns → IsIndexOf k table.rows (table_blocks stored) index.entries →
        (bs : List Bound) → AllByRecursion (Sets own v k) bs → interval_in bs (Some index) ≡ Some interval → Scans (Some index)
    with_bounds k index lt made [] all h = cc
    with_bounds k index lt made (b ∷ bs) all h =
        entries_scan v k table.columns lt of.few (table_blocks stored) table.rows (recursion_from_All (IsRowOf table.columns) table.rows of.rows) (stored_items relation table stored of is) index.entries made
        own (b ∷ bs) interval (omega arith) all cc

    by_index : (o : Option ℕ) (p : Option StoredIndex) → IfSome o (λ column. column < length relation.columns) → IsIndexed o table (table_blocks stored) p → interval_in (bounds_on o v q) p ≡ Some interval → Scans p
    by_index None None lt made h = cc
    by_index None (Some index) lt made h = elim made [ ]
    by_index (Some k) None lt made h = elim made [ ]
    by_index (Some k) (Some index) lt made h =
        with_bounds k index (subst (λ columns. k < length columns) (sym of.columns) lt) made.1 (bounds_of v k cs) (bounds_set v k root cs) h

    -- the scan of a stored table by the interval that is counted of it
    index_scan : interval_in (bounds_on relation.index v q) stored.index ≡ Some interval → Scans stored.index
    index_scan e = by_index relation.index stored.index of.index is.index e

  module _ (relations : List Relation) (db made : List Table) (tables : List StoredTable)
      (kept_relations : List Kept) (qs : List Question) (table_of : List (List VarStats))
      (stats : List VarStats) (ok : IsResolved (db ++ made) q) (may : MayStore relations db)
      (laid : AreStored relations db tables)
      (counted : AreStatsOf relations tables kept_relations qs table_of q stats) where
    -- the tables of the relations, and those behind them
    abbrev all : List Table
    all = db ++ made

    -- a scan by this interval keeps the rows of the variable's table that pass these tests
    abbrev Reads : ℕ → List Expression → Interval → Option Var → Type 0
    Reads v tests interval o = SameRows (kept (one_part v (columns_if all o)) tests
        (var_rows all tables o interval))
        (kept (one_part v (columns_if all o)) tests (rows_if all o))

    -- the scan of a variable whose table and stats are there
    table_scan : (v : ℕ) (root : Bool) (interval : Interval) (s : VarStats) (var : Var) (relation : Relation) (table : Table) (stored : StoredTable) →
        slice_get stats v ≡ Some s → slice_get q.vars v ≡ Some var → slice_get relations var.relation ≡ Some relation → slice_get db var.relation ≡ Some table → slice_get tables var.relation ≡ Some stored →
        s.interval ≡ Some interval → Reads v (scan_tests root (λ u. v == u) cs) interval (slice_get q.vars v)
    table_scan v root interval s var relation table stored at var_at relation_at table_at stored_at e =
        let tests : List Expression = scan_tests root (λ u. v == u) cs in
        let counts : interval_in (bounds_on relation.index v q) stored.index ≡ Some interval =
        sym (ap (λ (x : VarStats). x.interval)
        (counted.of_tables v var relation stored s var_at relation_at stored_at at)) ∙ e in
        let here : slice_get all var.relation ≡ Some table =
        get_left db made var.relation (slice_get_within db var.relation table table_at) ∙
        table_at in
        subst (Reads v tests interval) (sym var_at)
        (subst (λ (t : Option Table). SameRows
        (kept (one_part v (columns_at t)) tests
        (table_rows t (slice_get tables var.relation) interval))
        (kept (one_part v (columns_at t)) tests (rows_at t))) (sym here)
        (subst (λ (t : Option StoredTable). SameRows (kept (one_part v (map layout_column table.columns)) tests (table_rows (Some table) t interval)) (kept (one_part v (map layout_column table.columns)) tests table.rows)) (sym stored_at)
        (index_scan v root interval relation table stored (may.each var.relation relation table relation_at table_at) (laid.each var.relation relation table stored relation_at table_at stored_at) counts)))

    -- a kept relation has no index, and no interval of one
    none_kept : (interval : Interval) (found : Option Interval) → found ≡ None →
        found ≡ Some interval → ⊥
    none_kept interval found none some =
        let same : ◌≡◌ {A = Option Interval} None (Some interval) = sym none ∙ some in cc

    stats_scan : (v : ℕ) (root : Bool) (interval : Interval) (s : VarStats) → slice_get stats v ≡ Some s → s.interval ≡ Some interval → Reads v (scan_tests root (λ u. v == u) cs) interval (slice_get q.vars v)
    stats_scan v root interval s at e =
        let below : v < length stats = slice_get_within stats v s at in
        let var = there q.vars v (omega (arith, below, counted.each)) in
        elim (cases_lt var.0.relation (length relations)) [
          | inl low ↦ (
              let table = there db var.0.relation (omega (arith, low, may.count)) in
              let relation = there relations var.0.relation low in
              let stored = there tables var.0.relation (omega (arith, low, laid.count)) in
              table_scan v root interval s var.0 relation.0 table.0 stored.0 at var.1 relation.1
              table.1 stored.1 e)
          | inr behind ↦ absurd (none_kept interval s.interval
              (counted.of_kept v var.0 s var.1 behind at).interval e)
        ]

    none : VarStats
    none = record { pages = 0; rows = 0; interval = None; height = 0 }

    var_scan : (v : ℕ) (root : Bool) (interval : Interval) → CanRead stats v (way.Index interval) → Reads v (scan_tests root (λ u. v == u) cs) interval (slice_get q.vars v)
    unfolding none
    var_scan v root interval h = by (slice_get stats v) refl where
      by : (o : Option VarStats) → slice_get stats v ≡ o → Reads v (scan_tests root (λ u. v == u) cs) interval (slice_get q.vars v)
      by None at =
          let gone : (slice_index_or stats v none).interval ≡ None = ap (λ (x : VarStats). x.interval) (sym (unwrap_or-slice_get stats v none) ∙ ap (λ o. unwrap_or o none) at) in
          let same : ◌≡◌ {A = Option Interval} None (Some interval) = sym gone ∙ h in
          absurd cc
      by (Some s) at = stats_scan v root interval s at (ap (λ (x : VarStats). x.interval) (sym (get_or_from_slice_get stats v s none at)) ∙ h)

    scan_reads : (v : ℕ) (w : Way) (root : Bool) (tests : List Expression) → CanRead stats v w →
        tests ≡ scan_tests root (λ u. v == u) cs →
        ScanReads all q (read_by all tables q) (scan v w tests)
    scan_reads v way.Heap root tests h e = λ row. refl
    scan_reads v (way.Index interval) root tests h e = subst (λ ts. Reads v ts interval (slice_get q.vars v)) (sym e) (var_scan v root interval h)

    -- each scan of the tree
    reads : (root : Bool) (t : Shape) → IsPlaced cs root t → FitsStats stats t →
        ScanReads all q (read_by all tables q) t
    reads root (one tests) placed fits = tt
    reads true (scan v w tests) placed fits = scan_reads v w true tests fits placed
    reads false (scan v w tests) placed fits = scan_reads v w false tests fits placed
    reads true (join m a b keys tests) placed fits = (reads false a placed.0 fits.0, reads false b placed.1 fits.1)
    reads false (join m a b keys tests) placed fits = (reads false a placed.0 fits.0, reads false b placed.1 fits.1)

    -- every tree of the query that fits the stats means the query
    pub trees_mean : (m : Method) (t : Shape) → IsTree q m t → FitsStats stats t →
        tree_answer all q (read_by all tables q) t ≡ meaning all q
    trees_mean m t tree fits = answers all q ok m t (read_by all tables q) tree
        (reads true t tree.placed fits)
