-- What may be cut.
use Rattle.std.specs.Prelude.{◌≡◌, ◌<◌, ◌≤◌, ◌+◌, ◌^◌, ℕ, List, length, map, Option, Some, None, slice_get, All, ⊤}
use Rattle.rows.specs.declared.plain.Interval.{Interval}
use Rattle.rows.specs.declared.plain.KeyIndex.{KeyIndex}
use Rattle.rows.specs.declared.plain.LayoutColumn.{LayoutColumn}
use Rattle.rows.specs.declared.plain.Relation.{Relation}
use Rattle.rel_meaning.specs.declared.query.Var.{Var}
use Rattle.rel_meaning.specs.Expression.{Question}
use Rattle.rel_meaning.specs.Meaning.{layout_column}
use Rattle.heap_page.specs.declared.map.PageFile.{PageFile}
use Rattle.heap_page.specs.declared.head.FileKind.{FileKind}
use Rattle.heap_page.specs.declared.head.FileKind.TheVariants as kind
use Rattle.plan_tree.specs.declared.fragment.Source.{Source}
use Rattle.plan_tree.specs.declared.fragment.Source.TheVariants as source
use Rattle.plan_tree.specs.declared.tree.Way.{Way}
use Rattle.plan_tree.specs.declared.tree.Way.TheVariants as way
use Rattle.plan_tree.specs.Pieces.{Piece}
use Rattle.plan_tree.specs.Trees.{Shape, one, scan, join, IsAnyTree}
use Rattle.plan_tree.specs.Views.{Planned}
use Rattle.plan_tree.specs.WellFormed.{IsIndexed}
use Rattle.seq_optimizer.specs.declared.stats.VarStats.{VarStats}
use Rattle.seq_optimizer.specs.Costs.{CanPlan}
use Rattle.kept_relations.specs.declared.kept.Kept.{Kept}
use Rattle.kept_answers.specs.KeptAnswers.{FitKept}
use Rattle.fragments.specs.Homes.{Home, nowhere, stored, made, Known, heap_file, index_if, indexes_before}

-- ---- files

-- a file of this kind with so many pages
abbrev pub HasFile : List PageFile → ℕ → FileKind → ℕ → Type 0
HasFile files number kind pages =
    slice_get files number ≡ Some (record { kind = kind; pages = pages })

-- an index on a column of a relation, whose heap file has this number
pub record IsIndexOf (known : Known) (heap : ℕ) (columns column : ℕ) (index : KeyIndex) : Type 0 where
  pub column_there : column < columns
  pub next_file : index.file ≡ heap + 1
  pub pages : HasFile known.files index.file kind.Index index.pages
  pub heap_pages : HasFile known.files heap kind.Heap index.heap_pages
  pub some_pages : 0 < index.entries → 0 < index.pages
  pub some_levels : 0 < index.entries → 0 < index.height

abbrev pub HasIndexFile : Known → ℕ → Relation → Option ℕ → Type 0
HasIndexFile known relation here None = ⊤
HasIndexFile known relation here (Some column) =
    (index : KeyIndex) × (slice_get known.indexes (indexes_before known.relations relation) ≡ Some index)
    × IsIndexOf known (heap_file known.relations relation) (length here.columns) column index

-- a relation of the catalogue has its heap file, and its index file and its index if it has one
pub record HasFiles (known : Known) (relation : ℕ) (here : Relation) : Type 0 where
  pub heap_pages : ℕ
  pub few : heap_pages < 2 ^ 32
  pub heap : HasFile known.files (heap_file known.relations relation) kind.Heap heap_pages
  pub index : HasIndexFile known relation here here.index

-- the files that a source names are there, with these kinds and numbers of pages
abbrev pub NamesFiles : List PageFile → Source → ℕ → Type 0
NamesFiles files source.One pages = ⊤
NamesFiles files (source.Heap var file) pages = HasFile files file kind.Heap pages
NamesFiles files (source.Index var index heap interval) pages =
    HasFile files index.file kind.Index index.pages × HasFile files heap kind.Heap index.heap_pages
NamesFiles files (source.Merge left right keys left_layout right_layout) pages = ⊤

abbrev pub HasNamedFiles : List PageFile → Piece → Type 0
HasNamedFiles files piece = NamesFiles files piece.pipe.source piece.pages

-- ---- trees

-- the index is there and has the interval
abbrev pub HasInterval : Option KeyIndex → Interval → Type 0
HasInterval None interval = ⊥
HasInterval (Some index) interval = IsIndexed index interval

-- a relation may be read this way
abbrev pub MayRead : Home → Way → Type 0
MayRead nowhere how = ⊥
MayRead (stored store) way.Heap = ⊤
MayRead (stored store) (way.Index interval) = HasInterval store.index interval
MayRead (made number columns) how = ⊤

-- each scan of the tree is of one of so many variables and may read its relation
abbrev pub MayScan : (ℕ → Home) → ℕ → Shape → Type 0
MayScan home count (one tests) = ⊤
MayScan home count (scan v how tests) = (v < count) × MayRead (home v) how
MayScan home count (join m a b keys tests) = MayScan home count a × MayScan home count b

-- ---- scripts

-- the index of a relation of the catalogue; a kept relation has none
abbrev pub index_in : Known → ℕ → Option Relation → Option KeyIndex
index_in known relation None = None
index_in known relation (Some here) =
    index_if known.indexes (indexes_before known.relations relation) here.index

abbrev pub index_for : Known → Option Var → Option KeyIndex
index_for known None = None
index_for known (Some var) = index_in known var.relation (slice_get known.relations var.relation)

abbrev pub IsWithin : Option KeyIndex → Way → Type 0
IsWithin index way.Heap = ⊤
IsWithin index (way.Index interval) = HasInterval index interval

-- the interval of each index scan lies within the entries of the index of the variable's relation
abbrev pub ReadsWithin : Known → Question → Shape → Type 0
ReadsWithin known q (one tests) = ⊤
ReadsWithin known q (scan v how tests) = IsWithin (index_for known (slice_get q.vars v)) how
ReadsWithin known q (join m a b keys tests) = ReadsWithin known q a × ReadsWithin known q b

-- a plan, where the variables of its query have these stats: its tree is a tree of the query, and the
-- keys of the answer are among the targets
pub record MayCutPlan (known : Known) (stats : List VarStats) (p : Planned) : Type 0 where
  pub tree : IsAnyTree p.query p.tree
  pub plan : CanPlan p.query stats
  pub keys : All (λ key. key.column < length p.query.targets) p.query.keys
  pub intervals : ReadsWithin known p.query p.tree

-- the columns of the relations of the catalogue
abbrev pub catalog_columns : Known → List (List LayoutColumn)
catalog_columns known = map (λ (here : Relation). map layout_column here.columns) known.relations

-- at most 32 columns, each with a bound
pub record IsKept (kept : Kept) : Type 0 where
  pub narrow : length kept.columns ≤ 32
  pub each : length kept.bounds ≡ length kept.columns

-- The plans of a script, and a list of stats for each. The relations of the catalogue have their
-- files, each has at most 32 columns, and the kept relations are those of the plans' queries.
pub record MayCut (known : Known) (table : List (List VarStats)) (ps : List Planned) : Type 0 where
  pub few : length ps ≤ 16
  pub stats : length table ≡ length ps
  pub relations : length known.relations ≤ 16
  pub narrow : All (λ (here : Relation). length here.columns ≤ 32) known.relations
  pub files : (relation : ℕ) (here : Relation) → slice_get known.relations relation ≡ Some here →
      HasFiles known relation here
  pub kept : FitKept (catalog_columns known) known.kept (map (λ (p : Planned). p.query) ps)
  pub bounds : All IsKept known.kept
  pub plans : (i : ℕ) (p : Planned) (stats : List VarStats) → slice_get ps i ≡ Some p →
      slice_get table i ≡ Some stats → MayCutPlan known stats p
