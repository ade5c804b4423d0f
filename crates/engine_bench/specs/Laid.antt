-- A heap file, and an index file, each of which is the only file of its map.
use Rattle.std.specs.Prelude.{◌≡◌, ◌∷◌, [], length}
use Rattle.heap_page.specs.declared.head.FileKind.TheVariants.{Heap, Index}
use Rattle.heap_page.specs.Maps.{IsMap}
use Rattle.engine_bench.specs.declared.heap.HeapFile.{HeapFile}
use Rattle.engine_bench.specs.declared.index.IndexFile.{IndexFile}

-- the map has the heap file alone, with its pages, and as many drives as there are
pub record IsHeapFile (heap : HeapFile) : Type 0 where
  pub map : IsMap heap.map
  pub files : heap.map.files.items ≡ record { kind = Heap; pages = heap.pages } ∷ []
  pub drives : length heap.drives.items ≡ heap.map.drives

-- the map has the index alone, with its pages, and as many drives as there are
pub record IsIndexFile (laid : IndexFile) : Type 0 where
  pub map : IsMap laid.map
  pub files : laid.map.files.items ≡ record { kind = Index; pages = laid.index.pages } ∷ []
  pub drives : length laid.drives.items ≡ laid.map.drives
  pub number : laid.index.file ≡ 0
