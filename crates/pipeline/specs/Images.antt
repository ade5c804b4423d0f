-- What the files of a source hold, where it tells their pages.
use Rattle.std.specs.Prelude.{◌≡◌, ◌<◌, ◌≤◌, ◌^◌, ℕ, List, Some, length, map, slice_get, ⊤}
use Rattle.heap_page.specs.Pages.{Fits, items_of, page_of}
use Rattle.heap_page.specs.declared.head.FileKind.TheVariants.{Heap}
use Rattle.heap_page.specs.declared.map.PageFile.{PageFile}
use Rattle.rows.specs.declared.plain.KeyEntry.{KeyEntry}
use Rattle.rows.specs.declared.plain.KeyIndex.{KeyIndex}
use Rattle.key_index.specs.Files.{HoldsIndex}
use Rattle.plan_tree.specs.declared.fragment.Source.{Source}
use Rattle.plan_tree.specs.declared.fragment.Source.TheVariants as source
use Rattle.plan_tree.specs.Fragments.{EntryPlace, Stored, page_items}

-- the bytes of each page of each file
abbrev pub Image : Type 0
Image = ℕ → ℕ → List ℕ

-- each page of a heap file is the page of these items, which fit it
pub record HoldsHeap (image : Image) (file count : ℕ) (pages : List (List (List ℕ))) : Type 0 where
  pub small : (file < 2 ^ 32) × (count ≤ 2 ^ 32)
  pub size : length pages ≡ count
  pub each : (page : ℕ) (items : List (List ℕ)) → slice_get pages page ≡ Some items → Fits items × (image file page ≡ page_of file page items)

-- where an entry leads
abbrev pub place_of : KeyEntry → EntryPlace
place_of entry = record { page = entry.page; slot = entry.slot }

-- the pages of an index file are those of the index over some entries, which lead to these places in order
pub record HoldsPlaces (image : Image) (index : KeyIndex) (places : List EntryPlace) : Type 0 where
  pub entries : List KeyEntry
  pub holds : HoldsIndex index (image index.file) entries
  pub lead : places ≡ map place_of entries

-- the items of each page of a heap file are those that are stored
abbrev pub StoresHeap : Image → Stored → ℕ → ℕ → Type 0
StoresHeap image stored file count = (page : ℕ) → page < count → page_items stored file page ≡ items_of (image file page)

-- the files that a source with so many positions reads hold what is stored
abbrev pub IsTold : Image → Stored → ℕ → Source → Type 0
IsTold image stored positions source.One = ⊤
IsTold image stored positions (source.Heap var file) = HoldsHeap image file positions (stored.pages file)
IsTold image stored positions (source.Index var index heap_file interval) =
    HoldsPlaces image index (stored.entries index.file) × HoldsHeap image heap_file index.heap_pages (stored.pages heap_file)
IsTold image stored positions (source.Merge left right keys left_layout right_layout) = ⊤

-- what is read in them is what is stored, whether or not each page breaks no rule
abbrev pub StoresRead : Image → Stored → ℕ → Source → Type 0
StoresRead image stored positions source.One = ⊤
StoresRead image stored positions (source.Heap var file) = StoresHeap image stored file positions
StoresRead image stored positions (source.Index var index heap_file interval) =
    HoldsPlaces image index (stored.entries index.file) × StoresHeap image stored heap_file index.heap_pages
StoresRead image stored positions (source.Merge left right keys left_layout right_layout) = ⊤

-- a heap file with so many pages
pub record IsHeapFile (files : List PageFile) (file pages : ℕ) : Type 0 where
  pub entry : PageFile
  pub here : slice_get files file ≡ Some entry
  pub kind : entry.kind ≡ Heap
  pub size : entry.pages ≡ pages
