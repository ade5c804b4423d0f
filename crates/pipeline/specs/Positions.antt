-- When a position of a fragment can be run, and why it gave no rows.
use Rattle.std.specs.Prelude.{◌≡◌, ◌+◌, ◌<◌, ℕ, List, [], ◌∷◌, None, Option, ⊤}
use Rattle.heap_page.specs.declared.errors.FetchErr.{FetchErr}
use Rattle.heap_page.specs.declared.errors.FetchErr.TheVariants.{NoMemory}
use Rattle.heap_page.specs.declared.map.PageFile.{PageFile}
use Rattle.hash_join.specs.Table.{Table}
use Rattle.key_index.specs.Searches.{HasIndex}
use Rattle.merge_join.specs.Sides.{IsSide, left_columns, right_columns}
use Rattle.rows.specs.declared.plain.Column.{Column}
use Rattle.rows.specs.declared.plain.LayoutPart.{LayoutPart}
use Rattle.plan_tree.specs.declared.fragment.Source.{Source}
use Rattle.plan_tree.specs.declared.fragment.Source.TheVariants as source
use Rattle.plan_tree.specs.Fragments.{source_layout}
use Rattle.plan_tree.specs.Pieces.{Piece, Piping, Probing}
use Rattle.plan_tree.specs.WellFormed.{IsPiece}
use Rattle.pipeline.specs.Entries.{EntryCause, IsEntryFine}
use Rattle.pipeline.specs.Images.{Image, IsHeapFile}
use Rattle.pipeline.specs.Probes.{FitProbes}
use Rattle.pipeline.specs.Scans.{ScanCause, scan_fault}

-- it is well formed behind some earlier fragments
pub record IsFormed (piece : Piece) : Type 0 where
  pub before : List Piece
  pub is : IsPiece before piece

-- a source that reads items of a heap file
abbrev pub IsScan : Source → Type 0
IsScan source.One = ⊥
IsScan (source.Heap var file) = ⊤
IsScan (source.Index var index heap_file interval) = ⊤
IsScan (source.Merge left right keys left_layout right_layout) = ⊥

-- the files that a source with so many positions reads are there
abbrev pub HasFiles : List PageFile → ℕ → Source → Type 0
HasFiles files positions source.One = ⊤
HasFiles files positions (source.Heap var file) = IsHeapFile files file positions
HasFiles files positions (source.Index var index heap_file interval) = HasIndex files index × IsHeapFile files heap_file index.heap_pages
HasFiles files positions (source.Merge left right keys left_layout right_layout) = ⊤

-- a value for each input, in order: the two sides of a merge, and then one that fits each probe
abbrev pub FitInputs : Source → List LayoutPart → List Probing → List Table → Type 0
FitInputs source.One before ps tables = FitProbes before ps tables
FitInputs (source.Heap var file) before ps tables = FitProbes before ps tables
FitInputs (source.Index var index heap_file interval) before ps tables = FitProbes before ps tables
FitInputs (source.Merge left right keys left_layout right_layout) before ps [] = ⊥
FitInputs (source.Merge left right keys left_layout right_layout) before ps (a ∷ []) = ⊥
FitInputs (source.Merge left right keys left_layout right_layout) before ps (a ∷ b ∷ tables) =
    IsSide left_layout (left_columns keys) a.lists × IsSide right_layout (right_columns keys) b.lists × FitProbes before ps tables

abbrev pub AreInputs : Piping → List Table → Type 0
AreInputs pipe tables = FitInputs pipe.source (source_layout pipe.source pipe.columns) pipe.probes tables

-- why a position gave no rows
abbrev pub PositionCause : Source → List Column → Option Image → ℕ → (ℕ → ℕ) → (ℕ → ℕ) → ℕ → FetchErr → Type 0
PositionCause source.One columns image drives before now position err = err ≡ NoMemory
PositionCause (source.Heap var file) columns image drives before now position err = ScanCause columns image drives before now file position err
PositionCause (source.Index var index heap_file interval) columns image drives before now position err = EntryCause columns index image drives before now heap_file (interval.from + position) err
PositionCause (source.Merge left right keys left_layout right_layout) columns image drives before now position err = err ≡ NoMemory

-- what a position reads of told pages breaks no rule
abbrev pub ReadsFine : Source → List Column → Image → ℕ → Type 0
ReadsFine source.One columns image position = ⊤
ReadsFine (source.Heap var file) columns image position = scan_fault columns file position (image file position) ≡ None
ReadsFine (source.Index var index heap_file interval) columns image position = IsEntryFine columns index image heap_file (interval.from + position)
ReadsFine (source.Merge left right keys left_layout right_layout) columns image position = ⊤
