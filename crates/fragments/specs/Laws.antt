-- What the fragments of a script give over the stored files of its tables.
use Rattle.std.specs.Prelude.{◌≡◌, ◌<◌, ◌≤◌, ℕ, List, [], length, map, Some, slice_get, ⊤}
use Rattle.std.specs.List.{AllByRecursion, flat_map}
use Rattle.std.specs.Option.{option_to_list}
use Rattle.rows.specs.declared.value.Value.{Value}
use Rattle.rows.specs.declared.plain.Column.{Column}
use Rattle.rows.specs.declared.plain.Interval.{Interval}
use Rattle.rows.specs.declared.plain.KeyIndex.{KeyIndex}
use Rattle.rows.specs.declared.plain.Relation.{Relation}
use Rattle.rows.specs.Layouts.{one_part}
use Rattle.rows.specs.RowBytes.{IsRowOf, row_bytes}
use Rattle.rel_meaning.specs.declared.query.Table.{Table}
use Rattle.rel_meaning.specs.declared.query.Var.{Var}
use Rattle.rel_meaning.specs.Expression.{Question}
use Rattle.rel_meaning.specs.Meaning.{layout_column}
use Rattle.heap_page.specs.declared.map.PageFile.{PageFile}
use Rattle.plan_tree.specs.declared.tree.Way.TheVariants as way
use Rattle.plan_tree.specs.Conjuncts.{conjuncts}
use Rattle.plan_tree.specs.Fragments.{Stored, row_at, value_at, values_of}
use Rattle.plan_tree.specs.Intervals.{AreEntries, interval_end, key_in, lower_end}
use Rattle.plan_tree.specs.Pieces.{Piece}
use Rattle.plan_tree.specs.ShapeLaws.{HoldsBytes}
use Rattle.plan_tree.specs.Trees.{Shape, one, scan, join}
use Rattle.plan_tree.specs.Views.{Planned}
use Rattle.seq_optimizer.specs.declared.stats.VarStats.{VarStats}
use Rattle.seq_optimizer.specs.Bounds.{bounds_of}
use Rattle.kept_answers.specs.KeptAnswers.{answers_of}
use Rattle.fragments.specs.Homes.{Known, heap_file, indexes_before}
use Rattle.fragments.specs.Scripts.{last_numbers}

-- the rows to which the entries of an index lead, in the order of the entries
abbrev pub entry_rows : Stored → List Column → ℕ → KeyIndex → List (List Value)
entry_rows stored columns heap index = flat_map (λ at. option_to_list (row_at stored columns heap at)) (stored.entries index.file)

-- each entry leads to a row, and they are the rows whose key isn't null, in the order of their keys
pub record HoldsEntries (stored : Stored) (columns : List Column) (heap column : ℕ) (rows : List (List Value)) (index : KeyIndex) : Type 0 where
  pub lead : map (row_at stored columns heap) (stored.entries index.file) ≡ map Some (entry_rows stored columns heap index)
  pub are : (v : ℕ) → AreEntries (one_part v (map layout_column columns)) v column rows (entry_rows stored columns heap index)

-- the pages of a relation's heap file hold the bytes of the rows of its table, and the entries of its
-- index lead to them
pub record HoldsTable (stored : Stored) (known : Known) (relation : ℕ) (here : Relation) (table : Table) : Type 0 where
  pub columns : table.columns ≡ here.columns
  pub are_rows : AllByRecursion (IsRowOf here.columns) table.rows
  pub pages : (file : PageFile) → slice_get known.files (heap_file known.relations relation) ≡ Some file →
      length (stored.pages (heap_file known.relations relation)) ≡ file.pages
  pub items : flat_map (λ items. items) (stored.pages (heap_file known.relations relation)) ≡ map (row_bytes here.columns) table.rows
  pub entries : (column : ℕ) (index : KeyIndex) → here.index ≡ Some column →
      slice_get known.indexes (indexes_before known.relations relation) ≡ Some index →
      HoldsEntries stored here.columns (heap_file known.relations relation) column table.rows index

-- the stored files are those of the tables, one for each relation of the catalogue
pub record HoldTables (stored : Stored) (known : Known) (db : List Table) : Type 0 where
  pub bytes : HoldsBytes stored
  pub each : length db ≡ length known.relations
  pub tables : (relation : ℕ) (here : Relation) (table : Table) → slice_get known.relations relation ≡ Some here →
      slice_get db relation ≡ Some table → HoldsTable stored known relation here table

-- the interval of entries that the query's bounds on the indexed column leave, where there is one
pub record IsLeft (stored : Stored) (known : Known) (q : Question) (v relation : ℕ) (here : Relation) (column : ℕ) (index : KeyIndex) (interval : Interval) : Type 0 where
  pub some : 0 < length (bounds_of v column (conjuncts q.test))
  pub from : interval.from ≡ lower_end (bounds_of v column (conjuncts q.test))
      (map (key_in (one_part v (map layout_column here.columns)) v column) (entry_rows stored here.columns (heap_file known.relations relation) index))
  pub upto : interval.upto ≡ interval_end (bounds_of v column (conjuncts q.test))
      (map (key_in (one_part v (map layout_column here.columns)) v column) (entry_rows stored here.columns (heap_file known.relations relation) index))

-- each index scan of a tree has the interval that the query's bounds leave of the stored entries
abbrev pub ReadsLeft : Stored → Known → Question → Shape → Type 0
ReadsLeft stored known q (one tests) = ⊤
ReadsLeft stored known q (scan v way.Heap tests) = ⊤
ReadsLeft stored known q (scan v (way.Index interval) tests) =
    (var : Var) (here : Relation) (column : ℕ) (index : KeyIndex) → slice_get q.vars v ≡ Some var →
    slice_get known.relations var.relation ≡ Some here → here.index ≡ Some column →
    slice_get known.indexes (indexes_before known.relations var.relation) ≡ Some index →
    IsLeft stored known q v var.relation here column index interval
ReadsLeft stored known q (join m a b keys tests) = ReadsLeft stored known q a × ReadsLeft stored known q b

abbrev pub PlansFit : Stored → Known → List Planned → Type 0
PlansFit stored known ps = AllByRecursion (λ (p : Planned). ReadsLeft stored known p.query p.tree) ps

-- Over all stored files of the tables, and for all plans whose index scans have the intervals that
-- their bounds leave, the values of the statements' last fragments are the answers of the queries:
-- each over the tables, and over what earlier statements keep.
abbrev pub Mean : Known → List (List VarStats) → List Planned → List Piece → Type 0
Mean known table ps pieces = (stored : Stored) (db : List Table) → HoldTables stored known db → PlansFit stored known ps →
    map (value_at (values_of stored pieces)) (last_numbers known table ps)
    ≡ answers_of db known.kept (map (λ (p : Planned). p.query) ps)
