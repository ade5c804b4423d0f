-- What a source of pages gives.
use Rattle.std.specs.Prelude.{◌≡◌, ◌≢◌, ℕ, ◌<◌, Bool, true, List, slice_get, Option, Some, None, IfSome, ⊤}
use Rattle.std.specs.Option.{option_and_then}
use Rattle.xp_outside.specs.Outside.{Rose, Stands}
use Rattle.heap_page.specs.declared.map.PageFile.{PageFile}
use Rattle.heap_page.specs.declared.errors.FetchErr.{FetchErr}
use Rattle.heap_page.specs.declared.errors.FetchErr.TheVariants.{DriveFault, BadPage, NoMemory}
use Rattle.heap_page.specs.Pages.{head_fault}

-- the first rule of a head that the bytes break, as a page of this file, which has a kind
abbrev pub head_fault_in : List PageFile → ℕ → ℕ → List ℕ → Option ℕ
head_fault_in files file page bytes = option_and_then (λ f. head_fault f.kind file page bytes) (slice_get files file)

-- a page that was given: its head breaks no rule, and it is the image's
pub record IsGiven (files : List PageFile) (image : Option (ℕ → ℕ → List ℕ)) (file page : ℕ) (bytes : List ℕ) : Type 0 where
  pub head : head_fault_in files file page bytes ≡ None
  pub told : IfSome image (λ pages. pages file page ≡ bytes)

-- a page that was refused: this is the first rule that its head breaks, and it is the image's
pub record IsRefused (files : List PageFile) (image : Option (ℕ → ℕ → List ℕ)) (file page rule : ℕ) : Type 0 where
  pub bytes : List ℕ
  pub head : head_fault_in files file page bytes ≡ Some rule
  pub told : IfSome image (λ pages. pages file page ≡ bytes)

-- why none was given
abbrev pub FetchCause : List PageFile → Option (ℕ → ℕ → List ℕ) → ℕ → (ℕ → ℕ) → (ℕ → ℕ) → ℕ → ℕ → FetchErr → Type 0
FetchCause files image drives before now file page (DriveFault d) = (d < drives) × Rose (before d) (now d)
FetchCause files image drives before now file page (BadPage bad) =
    (bad.file ≡ file) × (bad.page ≡ page) × IsRefused files image file page bad.rule
FetchCause files image drives before now file page NoMemory = ⊤

-- Where a source is one caller's alone, the count of each drive stands, but that of the one that has failed.
abbrev pub AreCalm : Bool → Option ℕ → (ℕ → ℕ) → (ℕ → ℕ) → Type 0
AreCalm lone fault before now = lone ≡ true → (d : ℕ) → fault ≢ Some d → Stands (before d) (now d)
