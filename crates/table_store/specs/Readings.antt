-- What is read of a heap file, and why it is not read.
use Rattle.std.specs.Prelude.{◌≡◌, ℕ, List, [], ◌∷◌, map, length, slice_get, is_some, IsTrue, All, ◌≤◌, Option, Some, None, ⊤, ◌⊎◌}
use Rattle.xp_outside.specs.Drives.{ReadsPage}
use Rattle.xp_outside.specs.declared.drive.Drive.{Ghosts}
use Rattle.heap_page.specs.declared.errors.BadPage.{BadPage}
use Rattle.heap_page.specs.declared.errors.FetchErr.{FetchErr}
use Rattle.heap_page.specs.declared.errors.FetchErr.TheVariants as fetch
use Rattle.heap_page.specs.declared.map.FileMap.{FileMap}
use Rattle.heap_page.specs.Blocks.{ArePages, joined}
use Rattle.heap_page.specs.Maps.{HasPage, HasPages, address_of, drive_of}
use Rattle.heap_page.specs.Pages.{fault_of, items_of}
use Rattle.heap_page.specs.Stores.{IsFault, Stand}
use Rattle.rows.specs.declared.plain.Column.{Column}
use Rattle.rows.specs.declared.value.Value.{Value}
use Rattle.rows.specs.RowBytes.{Decodes, Encodes, IsRowOf}
use Rattle.table_store.specs.Files.{encodings}

-- each item is the encoding of its row, and of no other row
abbrev pub AreDecoded : List Column → List (List Value) → List (List ℕ) → Type 0
AreDecoded columns [] [] = ⊤
AreDecoded columns (row ∷ rows) (item ∷ items) = Decodes columns item (Some row) × AreDecoded columns rows items
AreDecoded columns rows items = ⊥

-- some item is the encoding of no row of the columns
abbrev pub HasStranger : List Column → List (List ℕ) → Type 0
HasStranger columns items = (slot : ℕ) × (item : List ℕ) × (slice_get items slot ≡ Some item) × ((row : List Value) → Encodes columns row item → ⊥)

-- the first rule that a page of rows breaks: those of a heap page, and then rule 9, that each item is the encoding of a row
abbrev pub Breaks : List Column → ℕ → ℕ → List ℕ → ℕ → Type 0
Breaks columns file number bytes rule =
    (fault_of file number bytes ≡ Some rule) ⊎ ((fault_of file number bytes ≡ None) × (rule ≡ 9) × HasStranger columns (items_of bytes))

-- the page that is told at this address breaks the rule, or some page does where none is told
abbrev pub TellsBreak : Option (List (List ℕ)) → ℕ → List Column → ℕ → BadPage → Type 0
TellsBreak None address columns file bad = (page : List ℕ) × Breaks columns file bad.page page bad.rule
TellsBreak (Some pages) address columns file bad = (page : List ℕ) × (slice_get pages address ≡ Some page) × Breaks columns file bad.page page bad.rule

module _ {D : Type 0} (g : Ghosts D) where
  -- The rows are those of pages that break no rule and that are, where drives tell, the told pages of the file's first places.
  pub record ArePageRows (map_of : FileMap) (file : ℕ) (columns : List Column) (drives : List D) (pages : List (List ℕ)) (rows : List (List Value)) : Type 0 where
    pub told : (number : ℕ) (page : List ℕ) (drive : D) → slice_get pages number ≡ Some page → slice_get drives (drive_of map_of number) ≡ Some drive →
        ReadsPage (g.pages drive) (address_of map_of file number) page
    pub sound : (number : ℕ) (page : List ℕ) → slice_get pages number ≡ Some page → fault_of file number page ≡ None
    pub decoded : AreDecoded columns rows (joined (map items_of pages))

  -- the rows of all pages of the file
  pub record AreFileRows (map_of : FileMap) (file : ℕ) (columns : List Column) (drives : List D) (rows : List (List Value)) : Type 0 where
    pub pages : List (List ℕ)
    pub all : HasPages map_of.files.items file (length pages)
    pub read : ArePageRows map_of file columns drives pages rows

  -- why rows were not read
  abbrev pub TableCause : FileMap → ℕ → List Column → List D → List D → FetchErr → Type 0
  TableCause map_of file columns olds news (fetch.DriveFault d) = IsFault g d olds news
  TableCause map_of file columns olds news (fetch.BadPage bad) =
      (bad.file ≡ file) × HasPage map_of.files.items file bad.page
      × ((drive : D) → slice_get olds (drive_of map_of bad.page) ≡ Some drive → TellsBreak (g.pages drive) (address_of map_of file bad.page) columns file bad)
  TableCause map_of file columns olds news fetch.NoMemory = ⊤

  -- every drive tells its pages
  abbrev pub AllTell : List D → Type 0
  AllTell drives = (d : ℕ) (drive : D) → slice_get drives d ≡ Some drive → IsTrue (is_some (g.pages drive))

  -- The drives tell, at the file's places, the pages of the encodings of these rows.
  pub record TellRows (map_of : FileMap) (file : ℕ) (columns : List Column) (rows : List (List Value)) (drives : List D) : Type 0 where
    pub few : length columns ≤ 32
    pub are_rows : All (IsRowOf columns) rows
    pub blocks : List (List (List ℕ))
    pub cut : ArePages (encodings columns rows) blocks
    pub number : HasPages map_of.files.items file (length blocks)
    pub tell : AllTell drives
    pub stand : Stand g map_of file blocks drives
