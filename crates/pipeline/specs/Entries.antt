-- The row of an index's entry, and why there is none.
use Rattle.std.specs.Prelude.{◌≡◌, ℕ, ◌<◌, List, if◌then◌else◌, Option, Some, None, IfSome, is_some, slice_get, ⊤, ◌⊎◌}
use Rattle.std.specs.Option.{option_and_then, option_to_list}
use Rattle.xp_outside.specs.Outside.{Rose}
use Rattle.heap_page.specs.declared.errors.BadPage.{BadPage as BadOf}
use Rattle.heap_page.specs.declared.errors.FetchErr.{FetchErr}
use Rattle.heap_page.specs.declared.errors.FetchErr.TheVariants.{DriveFault, BadPage, NoMemory}
use Rattle.heap_page.specs.Pages.{fault_of, first_of, items_of}
use Rattle.key_index.specs.Paths.{HasEntry, StopsEntry}
use Rattle.rows.specs.declared.value.Value.{Value}
use Rattle.rows.specs.declared.plain.Column.{Column}
use Rattle.rows.specs.declared.plain.KeyIndex.{KeyIndex}
use Rattle.rows.specs.declared.plain.LayoutPart.{LayoutPart}
use Rattle.rows.specs.RowFields.{row_in}
use Rattle.rel_meaning.specs.Expression.{Expression}
use Rattle.plan_tree.specs.Rows.{kept}
use Rattle.pipeline.specs.Images.{Image}

-- the row in a slot, where it passes
abbrev pub slot_rows : List LayoutPart → List Column → List Expression → List (List ℕ) → ℕ → List (List Value)
slot_rows layout columns tests items slot = kept layout tests (option_to_list (option_and_then (row_in columns) (slice_get items slot)))

-- rule 9 of the slot that an entry names: it is there, and is a row
abbrev pub item_fault : List Column → Option (List ℕ) → Option ℕ
item_fault columns None = Some 9
item_fault columns (Some item) = if is_some (row_in columns item) then None else Some 9

-- the first broken rule of a heap page of which one slot is used
abbrev pub slot_fault : List Column → ℕ → ℕ → ℕ → List ℕ → Option ℕ
slot_fault columns file page slot bytes = first_of (fault_of file page bytes) (item_fault columns (slice_get (items_of bytes) slot))

-- why a slot of a page's items gave no row
abbrev pub ViewCause : List Column → ℕ → ℕ → ℕ → List (List ℕ) → FetchErr → Type 0
ViewCause columns file page slot items (DriveFault d) = ⊥
ViewCause columns file page slot items (BadPage bad) = (bad.file ≡ file) × (bad.page ≡ page) × (item_fault columns (slice_get items slot) ≡ Some bad.rule)
ViewCause columns file page slot items NoMemory = ⊤

-- why a slot of a page at hand gave no row
abbrev pub SlotCause : List Column → ℕ → ℕ → ℕ → List ℕ → FetchErr → Type 0
SlotCause columns file page slot bytes (DriveFault d) = ⊥
SlotCause columns file page slot bytes (BadPage bad) = (bad.file ≡ file) × (bad.page ≡ page) × (slot_fault columns file page slot bytes ≡ Some bad.rule)
SlotCause columns file page slot bytes NoMemory = ⊤

-- why a slot of a source's page gave no row
abbrev pub FetchedCause : List Column → Option Image → ℕ → (ℕ → ℕ) → (ℕ → ℕ) → ℕ → ℕ → ℕ → FetchErr → Type 0
FetchedCause columns image drives before now file page slot (DriveFault d) = (d < drives) × Rose (before d) (now d)
FetchedCause columns image drives before now file page slot (BadPage bad) =
    (bad.file ≡ file) × (bad.page ≡ page) × IfSome image (λ pages. slot_fault columns file page slot (pages file page) ≡ Some bad.rule)
FetchedCause columns image drives before now file page slot NoMemory = ⊤

-- a page of the index is bad; where the source tells, the search for the entry stops at it, with its first broken rule
pub record IsBadIndex (index : KeyIndex) (image : Option Image) (number : ℕ) (bad : BadOf) : Type 0 where
  pub file : bad.file ≡ index.file
  pub within : bad.page < index.pages
  pub told : IfSome image (λ pages. StopsEntry index (pages index.file) number bad)

-- a heap page to which the entry leads is bad; where the source tells, a search leads there, and this is its first broken rule
pub record IsBadHeap (columns : List Column) (index : KeyIndex) (image : Option Image) (heap_file number : ℕ) (bad : BadOf) : Type 0 where
  pub slot : ℕ
  pub file : bad.file ≡ heap_file
  pub within : bad.page < index.heap_pages
  pub way : IfSome image (λ pages. HasEntry index (pages index.file) number (bad.page, slot))
  pub told : IfSome image (λ pages. slot_fault columns heap_file bad.page slot (pages heap_file bad.page) ≡ Some bad.rule)

abbrev pub EntryCause : List Column → KeyIndex → Option Image → ℕ → (ℕ → ℕ) → (ℕ → ℕ) → ℕ → ℕ → FetchErr → Type 0
EntryCause columns index image drives before now heap_file number (DriveFault d) = (d < drives) × Rose (before d) (now d)
EntryCause columns index image drives before now heap_file number (BadPage bad) =
    IsBadIndex index image number bad ⊎ IsBadHeap columns index image heap_file number bad
EntryCause columns index image drives before now heap_file number NoMemory = ⊤

-- what was found by an entry over told pages: a search leads to its place, whose page breaks no rule
pub record IsEntryFine (columns : List Column) (index : KeyIndex) (image : Image) (heap_file number : ℕ) : Type 0 where
  pub page : ℕ
  pub slot : ℕ
  pub way : HasEntry index (image index.file) number (page, slot)
  pub fine : slot_fault columns heap_file page slot (image heap_file page) ≡ None
