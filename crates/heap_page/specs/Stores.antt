-- What stands on drives after the pages of a file were written, and when a file is not written.
use Rattle.std.specs.Prelude.{◌≡◌, ◌≢◌, ℕ, ◌<◌, ◌≤◌, List, length, slice_get, Option, Some, None, Result, Ok, Err, ⊤}
use Rattle.xp_outside.specs.Outside.{Rose, Stands}
use Rattle.xp_outside.specs.declared.drive.Drive.{Ghosts}
use Rattle.heap_page.specs.declared.map.FileMap.{FileMap}
use Rattle.heap_page.specs.declared.errors.BadPage.{BadPage}
use Rattle.heap_page.specs.declared.errors.StoreErr.{StoreErr}
use Rattle.heap_page.specs.declared.errors.StoreErr.TheVariants.{DriveFault, DriveFull, NoMemory}
use Rattle.heap_page.specs.declared.errors.FetchErr.{FetchErr}
use Rattle.heap_page.specs.declared.errors.FetchErr.TheVariants as fetch
use Rattle.heap_page.specs.declared.head.FileKind.TheVariants.{Heap}
use Rattle.heap_page.specs.Maps.{needs_of, drive_of, address_of}
use Rattle.heap_page.specs.Pages.{page_of, head_fault}

-- where a page is told at this address, it has these bytes
abbrev pub TellsAt : Option (List (List ℕ)) → ℕ → List ℕ → Type 0
TellsAt None address bytes = ⊤
TellsAt (Some pages) address bytes = (page : List ℕ) → slice_get pages address ≡ Some page → page ≡ bytes

-- it tells exactly where it told, and what it told outside some addresses stays
abbrev pub KeepsBut : (ℕ → Type 0) → Option (List (List ℕ)) → Option (List (List ℕ)) → Type 0
KeepsBut P None None = ⊤
KeepsBut P None (Some new) = ⊥
KeepsBut P (Some old) None = ⊥
KeepsBut P (Some old) (Some new) = (length new ≡ length old) × ((address : ℕ) → (P address → ⊥) → slice_get new address ≡ slice_get old address)

-- the error names this page and the first rule that its head breaks
abbrev pub IsBad : ℕ → ℕ → List ℕ → FetchErr → Type 0
IsBad file page bytes (fetch.DriveFault d) = ⊥
IsBad file page bytes (fetch.BadPage bad) = (bad.file ≡ file) × (bad.page ≡ page) × (head_fault Heap file page bytes ≡ Some bad.rule)
IsBad file page bytes fetch.NoMemory = ⊥

-- the told page has this fault in its head, or some page does where none is told
abbrev pub HasBadHead : Option (List (List ℕ)) → ℕ → ℕ → BadPage → Type 0
HasBadHead None address file bad = (page : List ℕ) × (head_fault Heap file bad.page page ≡ Some bad.rule)
HasBadHead (Some pages) address file bad = (page : List ℕ) × (slice_get pages address ≡ Some page) × (head_fault Heap file bad.page page ≡ Some bad.rule)

-- the drive that has failed, by the answer
abbrev pub store_fault : {T : Type 0} → Result T StoreErr → Option ℕ
store_fault (Ok stored) = None
store_fault (Err (DriveFault d)) = Some d
store_fault (Err (DriveFull d needs capacity)) = None
store_fault (Err NoMemory) = None

abbrev pub fetch_fault : {T : Type 0} → Result T FetchErr → Option ℕ
fetch_fault (Ok found) = None
fetch_fault (Err (fetch.DriveFault d)) = Some d
fetch_fault (Err (fetch.BadPage bad)) = None
fetch_fault (Err fetch.NoMemory) = None

module _ {D : Type 0} (g : Ghosts D) where
  -- the count of each drive stands, but that of the one that has failed
  pub record AreQuiet (fault : Option ℕ) (olds news : List D) : Type 0 where
    pub each : (d : ℕ) (old new : D) → fault ≢ Some d → slice_get olds d ≡ Some old → slice_get news d ≡ Some new → Stands (g.faults old) (g.faults new)

  -- a drive after writes to these addresses at most
  pub record IsWritten (P : ℕ → Type 0) (old new : D) : Type 0 where
    pub size : g.size new ≡ g.size old
    pub count : g.faults old ≤ g.faults new
    pub others : KeepsBut P (g.pages old) (g.pages new)

  -- the same of each drive
  pub record AreWritten (P : ℕ → ℕ → Type 0) (olds news : List D) : Type 0 where
    pub len : length news ≡ length olds
    pub each : (d : ℕ) (old new : D) → slice_get olds d ≡ Some old → slice_get news d ≡ Some new → IsWritten (P d) old new

  -- the pages of some blocks of items stand at their addresses
  abbrev pub Stand : FileMap → ℕ → List (List (List ℕ)) → List D → Type 0
  Stand map file blocks drives =
      (page : ℕ) (items : List (List ℕ)) (drive : D) → slice_get blocks page ≡ Some items → slice_get drives (drive_of map page) ≡ Some drive →
      TellsAt (g.pages drive) (address_of map file page) (page_of file page items)

  -- each drive has the pages that the map needs
  abbrev pub HaveRoom : FileMap → List D → Type 0
  HaveRoom map drives = (d : ℕ) (drive : D) → slice_get drives d ≡ Some drive → needs_of map d ≤ g.size drive

  -- the count of this drive has risen
  pub record IsFault (d : ℕ) (olds news : List D) : Type 0 where
    pub old : D
    pub new : D
    pub was : slice_get olds d ≡ Some old
    pub is : slice_get news d ≡ Some new
    pub rose : Rose (g.faults old) (g.faults new)

  -- the first drive that is too small
  pub record IsFull (map : FileMap) (d needs capacity : ℕ) (drives : List D) : Type 0 where
    pub drive : D
    pub here : slice_get drives d ≡ Some drive
    pub needs_is : needs ≡ needs_of map d
    pub capacity_is : capacity ≡ g.size drive
    pub small : capacity < needs
    pub first : (e : ℕ) (other : D) → e < d → slice_get drives e ≡ Some other → needs_of map e ≤ g.size other

  -- the cause of an error: a drive is full, or each has room
  abbrev pub StoreCause : FileMap → List D → List D → StoreErr → Type 0
  StoreCause map olds news (DriveFault d) = HaveRoom map olds × IsFault d olds news
  StoreCause map olds news (DriveFull d needs capacity) = IsFull map d needs capacity olds × (news ≡ olds)
  StoreCause map olds news NoMemory = HaveRoom map olds

  -- a drive after reads
  pub record IsRead (old new : D) : Type 0 where
    pub size : g.size new ≡ g.size old
    pub count : g.faults old ≤ g.faults new
    pub told : g.pages new ≡ g.pages old

  -- the same of each drive
  pub record AreRead (olds news : List D) : Type 0 where
    pub len : length news ≡ length olds
    pub each : (d : ℕ) (old new : D) → slice_get olds d ≡ Some old → slice_get news d ≡ Some new → IsRead old new

  -- why a page was not read
  abbrev pub ReadCause : FileMap → ℕ → ℕ → List D → List D → FetchErr → Type 0
  ReadCause map file page olds news (fetch.DriveFault d) = (d ≡ drive_of map page) × IsFault d olds news
  ReadCause map file page olds news (fetch.BadPage bad) =
      (bad.file ≡ file) × (bad.page ≡ page) × ((drive : D) → slice_get olds (drive_of map page) ≡ Some drive → HasBadHead (g.pages drive) (address_of map file page) file bad)
  ReadCause map file page olds news fetch.NoMemory = ⊤
