-- The rows of a page of a heap file, and why there are none.
use Rattle.std.specs.Prelude.{◌≡◌, ℕ, ◌<◌, Bool, true, false, List, map, if◌then◌else◌, Option, Some, None, IfSome, is_some, ⊤}
use Rattle.std.specs.List.{list_all}
use Rattle.std.specs.Option.{option_map}
use Rattle.xp_outside.specs.Outside.{Rose}
use Rattle.heap_page.specs.declared.errors.FetchErr.{FetchErr}
use Rattle.heap_page.specs.declared.errors.FetchErr.TheVariants.{DriveFault, BadPage, NoMemory}
use Rattle.heap_page.specs.Pages.{fault_of, first_of, items_of}
use Rattle.rows.specs.declared.value.Value.{Value}
use Rattle.rows.specs.declared.plain.Column.{Column}
use Rattle.rows.specs.declared.plain.LayoutPart.{LayoutPart}
use Rattle.rows.specs.Layouts.{column_in, one_part}
use Rattle.rows.specs.RowFields.{row_in}
use Rattle.rel_meaning.specs.Expression.{Expression}
use Rattle.rel_meaning.specs.Meaning.{layout_column}
use Rattle.plan_tree.specs.Conjuncts.{all_met}
use Rattle.plan_tree.specs.Rows.{kept}
use Rattle.plan_tree.specs.Fragments.{rows_in}
use Rattle.pipeline.specs.Images.{Image}

-- the layout of the rows of a relation
abbrev pub scanned : ℕ → List Column → List LayoutPart
scanned var columns = one_part var (map layout_column columns)

-- whether the tests are true for the row whose bytes these are, where they are those of a row
abbrev pub item_meets : List LayoutPart → List Column → List Expression → List ℕ → Option Bool
item_meets layout columns tests item = option_map (λ row. all_met tests (column_in layout row)) (row_in columns item)

-- the rows of items that pass
abbrev pub passing : List LayoutPart → List Column → List Expression → List (List ℕ) → List (List Value)
passing layout columns tests items = kept layout tests (rows_in columns items)

-- whether each item is a row
abbrev pub are_rows : List Column → List (List ℕ) → Bool
are_rows columns items = list_all (λ item. is_some (row_in columns item)) items

-- rule 9 of a page whose items are all used
abbrev pub items_fault : List Column → List (List ℕ) → Option ℕ
items_fault columns items = if are_rows columns items then None else Some 9

-- the first broken rule of a heap page that is scanned
abbrev pub scan_fault : List Column → ℕ → ℕ → List ℕ → Option ℕ
scan_fault columns file page bytes = first_of (fault_of file page bytes) (items_fault columns (items_of bytes))

-- why a page's items gave no rows
abbrev pub ItemCause : List Column → ℕ → ℕ → List (List ℕ) → FetchErr → Type 0
ItemCause columns file page items (DriveFault d) = ⊥
ItemCause columns file page items (BadPage bad) = (bad.file ≡ file) × (bad.page ≡ page) × (bad.rule ≡ 9) × (are_rows columns items ≡ false)
ItemCause columns file page items NoMemory = ⊤

-- why a page at hand gave no rows
abbrev pub PageCause : List Column → ℕ → ℕ → List ℕ → FetchErr → Type 0
PageCause columns file page bytes (DriveFault d) = ⊥
PageCause columns file page bytes (BadPage bad) = (bad.file ≡ file) × (bad.page ≡ page) × (scan_fault columns file page bytes ≡ Some bad.rule)
PageCause columns file page bytes NoMemory = ⊤

-- why a page of a source gave no rows
abbrev pub ScanCause : List Column → Option Image → ℕ → (ℕ → ℕ) → (ℕ → ℕ) → ℕ → ℕ → FetchErr → Type 0
ScanCause columns image drives before now file page (DriveFault d) = (d < drives) × Rose (before d) (now d)
ScanCause columns image drives before now file page (BadPage bad) =
    (bad.file ≡ file) × (bad.page ≡ page) × IfSome image (λ pages. scan_fault columns file page (pages file page) ≡ Some bad.rule)
ScanCause columns image drives before now file page NoMemory = ⊤
