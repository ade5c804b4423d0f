-- What a job leaves on its drives, and what shows that it failed there.
use Rattle.std.specs.Prelude.{◌≡◌, ◌⊎◌, ℕ, ◌+◌, ◌<◌, ◌≤◌, IsSome, List, [], length, slice_get, Some, None, Result, Ok, Err, ⊤}
use Rattle.std.specs.Global.{Vec}
use Rattle.xp_outside.specs.Outside.{Rose}
use Rattle.xp_outside.specs.declared.drive.Drive.{Ghosts}
use Rattle.heap_page.specs.declared.map.FileMap.{FileMap}
use Rattle.heap_page.specs.declared.errors.BadPage.{BadPage}
use Rattle.heap_page.specs.Maps.{HasPage, drive_of}
use Rattle.heap_page.specs.Stores.{HaveRoom, IsFull}
use Rattle.rows.specs.declared.plain.Relation.{Relation}
use Rattle.rel_meaning.specs.declared.query.Table.{Table}
use Rattle.table_store.specs.declared.files.StoredTable.{StoredTable}
use Rattle.table_store.specs.Databases.{AllFresh, AreStored, IsMapOf}
use Rattle.table_store.specs.Files.{file_number}
use Rattle.table_store.specs.Images.{HoldImage}
use Rattle.table_store.specs.Readings.{AllTell}
use Rattle.xprs_top.specs.declared.status.Status.{Status}
use Rattle.xprs_top.specs.declared.status.Status.TheVariants.{DriveFault, Bad, NoMemory, DriveFull, TooLarge}
use Rattle.xprs_top.specs.declared.goal.Goal.TheVariants.{Answers, Plans}
use Rattle.xprs_top.specs.Readings.{Job, write, over}
use Rattle.xprs_top.specs.Texts.{IsText, IsTooLarge}

-- the tables as they are stored, and the places of their pages on so many drives
pub record Layout (relations : List Relation) (db : List Table) (drives : ℕ) : Type 0 where
  pub tables : List StoredTable
  pub stored : AreStored relations db tables
  pub map_of : FileMap
  pub is : IsMapOf tables drives map_of

-- there are no drives, or so many
abbrev pub NoneOrAll : ℕ → ℕ → Type 0
NoneOrAll all n = (n ≡ 0) ⊎ (n ≡ all)

module _ {D : Type 0} (g : Ghosts D) where
  -- a drive that doesn't tell what it holds
  pub record IsUntold (drives : List D) : Type 0 where
    pub number : ℕ
    pub drive : D
    pub here : slice_get drives number ≡ Some drive
    pub untold : g.pages drive ≡ None

  -- the drive of this number is there and has failed
  pub record HasFailed (d : ℕ) (drives : List D) : Type 0 where
    pub drive : D
    pub here : slice_get drives d ≡ Some drive
    pub some : 0 < g.faults drive

  -- no drive has failed
  abbrev pub NoneFailed : List D → Type 0
  NoneFailed drives = (d : ℕ) → HasFailed d drives → ⊥

  -- so many drives, each with the pages that the tables need there
  pub record Fit (relations : List Relation) (db : List Table) (all : ℕ) (drives : List D) : Type 0 where
    pub count : length drives ≡ all
    pub layout : Layout relations db all
    pub room : HaveRoom g layout.map_of drives

  -- A page of the heap file of some table whose drive doesn't tell it, and the number of a rule of such pages, 1 to 9.
  pub record IsBadHeapPage (tables : List StoredTable) (map_of : FileMap) (bad : BadPage) (drives : List D) : Type 0 where
    pub table : ℕ
    pub within : table < length tables
    pub file : bad.file ≡ file_number tables table
    pub page : HasPage map_of.files.items bad.file bad.page
    pub rule : (1 ≤ bad.rule) × (bad.rule ≤ 9)
    pub drive : D
    pub here : slice_get drives (drive_of map_of bad.page) ≡ Some drive
    pub untold : g.pages drive ≡ None

  -- A page of the index of some table, on drives of which some don't tell, and the number of a rule of such pages, 1 to 9.
  pub record IsBadIndexPage (tables : List StoredTable) (map_of : FileMap) (bad : BadPage) (drives : List D) : Type 0 where
    pub table : ℕ
    pub stored : StoredTable
    pub here : slice_get tables table ≡ Some stored
    pub indexed : IsSome stored.index
    pub file : bad.file ≡ file_number tables table + 1
    pub page : HasPage map_of.files.items bad.file bad.page
    pub rule : (1 ≤ bad.rule) × (bad.rule ≤ 9)
    pub untold : IsUntold drives

  -- this drive is the first one that has fewer pages than the tables need there, and nothing was written
  pub record IsOverfull (relations : List Relation) (db : List Table) (all d needs capacity : ℕ) (drives : List D) : Type 0 where
    pub count : length drives ≡ all
    pub layout : Layout relations db all
    pub full : IsFull g layout.map_of d needs capacity drives
    pub unwritten : AllFresh g drives

  -- the same of the tables of a job; a job that only writes has none
  abbrev pub Fits : Job → List D → Type 0
  Fits (write text) drives = ⊥
  Fits (over goal machine checked db) drives = Fit checked.catalog db machine.drives drives

  -- a page that was read is bad: for answers one of a heap file, for plans one of an index
  abbrev pub ReadsBad : Job → BadPage → List D → Type 0
  ReadsBad (write text) bad drives = ⊥
  ReadsBad (over Answers machine checked db) bad drives =
      (fit : Fit checked.catalog db machine.drives drives) × IsBadHeapPage fit.layout.tables fit.layout.map_of bad drives
  ReadsBad (over (Plans m) machine checked db) bad drives =
      (fit : Fit checked.catalog db machine.drives drives) × IsBadIndexPage fit.layout.tables fit.layout.map_of bad drives

  abbrev pub Exceeds : Job → ℕ → ℕ → ℕ → List D → Type 0
  Exceeds (write text) d needs capacity drives = ⊥
  Exceeds (over goal machine checked db) d needs capacity drives = IsOverfull checked.catalog db machine.drives d needs capacity drives

  -- by every layout of the job's tables each drive has the pages that are needed there
  abbrev pub IsRoomy : Job → List D → Type 0
  IsRoomy (write text) drives = ⊤
  IsRoomy (over goal machine checked db) drives = (layout : Layout checked.catalog db machine.drives) → HaveRoom g layout.map_of drives

  -- A job that only writes a text has no drives. Another one has as many as its machine, and each one that tells holds exactly its
  -- part of the tables.
  abbrev pub Holds : Job → List D → Type 0
  Holds (write text) drives = drives ≡ []
  Holds (over goal machine checked db) drives = (fit : Fit checked.catalog db machine.drives drives) × HoldImage g fit.layout.map_of fit.layout.tables drives

  -- a text that was made is the job's, where all drives tell, and what shows why none was made; so is a
  -- statement the job's first one that is too large
  abbrev pub Makes : Job → ℕ → ℕ → List D → Result (Vec ℕ) Status → Type 0
  Makes job before now drives (Ok text) = Holds job drives × (AllTell g drives → IsText job text.items)
  Makes job before now drives (Err (DriveFault None)) = Rose before now × (drives ≡ [])
  Makes job before now drives (Err (DriveFault (Some d))) = Fits job drives × HasFailed d drives
  Makes job before now drives (Err (Bad bad)) = ReadsBad job bad drives
  Makes job before now drives (Err (DriveFull d needs capacity)) = Exceeds job d needs capacity drives
  Makes job before now drives (Err (TooLarge statement)) = Holds job drives × (AllTell g drives → IsTooLarge job statement)
  Makes job before now drives (Err NoMemory) = ⊤
  Makes job before now drives (Err other) = ⊥
