-- What drives hold after tables were written.
use Rattle.std.specs.Prelude.{◌≡◌, ℕ, ◌+◌, ◌<◌, List, length, replicate, slice_get, Some}
use Rattle.xp_outside.specs.declared.drive.Drive.{Ghosts}
use Rattle.heap_page.specs.declared.map.FileMap.{FileMap}
use Rattle.heap_page.specs.Blocks.{ArePages}
use Rattle.heap_page.specs.Maps.{IsPlace, address_of, drive_of}
use Rattle.heap_page.specs.Pages.{page_of}
use Rattle.heap_page.specs.Stores.{Stand}
use Rattle.key_index.specs.Files.{index_pages}
use Rattle.key_index.specs.Written.{AllStand}
use Rattle.table_store.specs.declared.files.StoredIndex.{StoredIndex}
use Rattle.table_store.specs.declared.files.StoredTable.{StoredTable}
use Rattle.table_store.specs.Files.{file_number, files_of, files_of_table}

-- a page of some table's heap file or index file stands at this address of this drive
abbrev pub IsTablePlace : FileMap → List StoredTable → ℕ → ℕ → Type 0
IsTablePlace map_of tables d address = (file : ℕ) × (file < length (files_of tables)) × IsPlace map_of file d address

-- a page of one of this table's files, of which the heap file has this number
abbrev pub IsPlaceOf : FileMap → ℕ → StoredTable → ℕ → ℕ → Type 0
IsPlaceOf map_of file table d address = (behind : ℕ) × (behind < length (files_of_table table)) × IsPlace map_of (file + behind) d address

module _ {D : Type 0} (g : Ghosts D) where
  -- The pages of a table stand at the places of its heap file, which has this number, and those of its index at the places of the next file.
  pub record HoldTable (map_of : FileMap) (file : ℕ) (table : StoredTable) (drives : List D) : Type 0 where
    pub heap : (blocks : List (List (List ℕ))) → ArePages table.items blocks → Stand g map_of file blocks drives
    pub index : (index : StoredIndex) → table.index ≡ Some index → AllStand g map_of (file + 1) (index_pages (file + 1) index.entries) drives

  -- the same of each table
  abbrev pub HoldTables : FileMap → List StoredTable → List D → Type 0
  HoldTables map_of tables drives =
      (number : ℕ) (table : StoredTable) → slice_get tables number ≡ Some table → HoldTable map_of (file_number tables number) table drives

  -- A drive's part of the tables: their pages and those of their indexes at their places, and zeros in every other page.
  pub record HoldsPart (map_of : FileMap) (tables : List StoredTable) (d : ℕ) (drive : D) (pages : List (List ℕ)) : Type 0 where
    pub whole : length pages ≡ g.size drive
    pub stored : (number : ℕ) (table : StoredTable) (blocks : List (List (List ℕ))) (page : ℕ) (items : List (List ℕ)) → slice_get tables number ≡ Some table → ArePages table.items blocks →
        slice_get blocks page ≡ Some items → drive_of map_of page ≡ d → slice_get pages (address_of map_of (file_number tables number) page) ≡ Some (page_of (file_number tables number) page items)
    pub indexes : (number : ℕ) (table : StoredTable) (index : StoredIndex) (page : ℕ) (bytes : List ℕ) → slice_get tables number ≡ Some table → table.index ≡ Some index →
        slice_get (index_pages (file_number tables number + 1) index.entries) page ≡ Some bytes → drive_of map_of page ≡ d → slice_get pages (address_of map_of (file_number tables number + 1) page) ≡ Some bytes
    pub others : (address : ℕ) → address < g.size drive → (IsTablePlace map_of tables d address → ⊥) → slice_get pages address ≡ Some (replicate 8192 0)

  -- each drive that tells holds its part
  abbrev pub HoldImage : FileMap → List StoredTable → List D → Type 0
  HoldImage map_of tables drives = (d : ℕ) (drive : D) (pages : List (List ℕ)) → slice_get drives d ≡ Some drive → g.pages drive ≡ Some pages → HoldsPart map_of tables d drive pages
