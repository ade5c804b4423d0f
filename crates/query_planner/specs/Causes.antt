-- Why there is no plan.
use Rattle.std.specs.Prelude.{◌≡◌, ℕ, ◌<◌, List, slice_get, Option, Some, ⊤}
use Rattle.xp_outside.specs.Outside.{Rose}
use Rattle.xp_outside.specs.declared.drive.Drive.{Ghosts}
use Rattle.buffer_pool.specs.Images.{image_on}
use Rattle.heap_page.specs.declared.errors.BadPage.{BadPage}
use Rattle.heap_page.specs.declared.errors.FetchErr.{FetchErr}
use Rattle.heap_page.specs.declared.errors.FetchErr.TheVariants as fetch
use Rattle.heap_page.specs.Maps.{HasPage}
use Rattle.heap_page.specs.Stores.{IsFault}
use Rattle.key_index.specs.Paths.{StopsInterval}
use Rattle.key_index.specs.Searches.{IsRule}
use Rattle.rows.specs.declared.plain.Bound.{Bound}
use Rattle.rows.specs.declared.plain.KeyIndex.{KeyIndex}
use Rattle.table_store.specs.declared.database.Laid.{Laid}

-- A page of an index that was laid breaks a rule for pages of an index. Where the image is told, a search for some bounds stops at it, and the
-- rule is the first one that it breaks.
pub record IsBadIndexPage (laid : Laid) (image : Option (ℕ → ℕ → List ℕ)) (bad : BadPage) : Type 0 where
  pub table : ℕ
  pub index : KeyIndex
  pub stands : slice_get laid.indexes.items table ≡ Some (Some index)
  pub file : bad.file ≡ index.file
  pub there : HasPage laid.map.files.items bad.file bad.page
  pub rule : IsRule bad.rule
  pub broken : (pages : ℕ → ℕ → List ℕ) → image ≡ Some pages → (bounds : List Bound) × StopsInterval index (pages index.file) bounds bad

-- of a source with so many drives: the count of a drive has risen, a page of an index is bad, or there is no memory
abbrev pub ReadCause : Laid → Option (ℕ → ℕ → List ℕ) → ℕ → (ℕ → ℕ) → (ℕ → ℕ) → FetchErr → Type 0
ReadCause laid image drives before now (fetch.DriveFault d) = (d < drives) × Rose (before d) (now d)
ReadCause laid image drives before now (fetch.BadPage bad) = IsBadIndexPage laid image bad
ReadCause laid image drives before now fetch.NoMemory = ⊤

module _ {D : Type 0} (g : Ghosts D) where
  -- of drives: the count of a drive has risen, a page of an index is bad, or there is no memory
  abbrev pub PlanCause : Laid → List D → List D → FetchErr → Type 0
  PlanCause laid olds news (fetch.DriveFault d) = IsFault g d olds news
  PlanCause laid olds news (fetch.BadPage bad) = IsBadIndexPage laid (image_on g laid.map olds) bad
  PlanCause laid olds news fetch.NoMemory = ⊤
