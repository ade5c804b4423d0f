-- What one page adds to the rows.
use Rattle.std.specs.Prelude.{◌≡◌, ℕ, Bool, true, false, List, ◌++◌, slice_get, Some, None, ⊤}
use Rattle.xp_outside.specs.Drives.{ReadsPage}
use Rattle.xp_outside.specs.declared.drive.Drive.{Ghosts}
use Rattle.heap_page.specs.declared.map.FileMap.{FileMap}
use Rattle.heap_page.specs.Maps.{address_of, drive_of}
use Rattle.heap_page.specs.Pages.{fault_of, items_of}
use Rattle.heap_page.specs.declared.errors.FetchErr.{FetchErr}
use Rattle.heap_page.specs.declared.errors.FetchErr.TheVariants as fetch
use Rattle.rows.specs.declared.plain.Column.{Column}
use Rattle.rows.specs.declared.value.Value.{Value}
use Rattle.table_store.specs.Readings.{AreDecoded, Breaks, HasStranger}

-- the rows of the items stand behind the others, or some item is no row
abbrev pub Added : List Column → List (List ℕ) → List (List Value) → List (List Value) → Bool → Type 0
Added columns items old new true = (more : List (List Value)) × (new ≡ old ++ more) × AreDecoded columns more items
Added columns items old new false = HasStranger columns items

-- the error names this page and a rule that it breaks, or there was no memory
abbrev pub IsBad : List Column → ℕ → ℕ → List ℕ → FetchErr → Type 0
IsBad columns file number bytes (fetch.DriveFault d) = ⊥
IsBad columns file number bytes (fetch.BadPage bad) = (bad.file ≡ file) × (bad.page ≡ number) × Breaks columns file number bytes bad.rule
IsBad columns file number bytes fetch.NoMemory = ⊤

module _ {D : Type 0} (g : Ghosts D) where
  -- the rows of one more page of the file stand behind the others
  pub record IsStep (map_of : FileMap) (file : ℕ) (columns : List Column) (drives : List D) (number : ℕ) (old new : List (List Value)) : Type 0 where
    pub page : List ℕ
    pub told : (drive : D) → slice_get drives (drive_of map_of number) ≡ Some drive → ReadsPage (g.pages drive) (address_of map_of file number) page
    pub sound : fault_of file number page ≡ None
    pub added : Added columns (items_of page) old new true
