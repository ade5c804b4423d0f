-- What stands on drives after the pages of an index were written.
use Rattle.std.specs.Prelude.{◌≡◌, ℕ, ◌<◌, List, slice_get, Some}
use Rattle.xp_outside.specs.declared.drive.Drive.{Ghosts}
use Rattle.heap_page.specs.declared.map.FileMap.{FileMap}
use Rattle.heap_page.specs.Maps.{address_of, drive_of}
use Rattle.heap_page.specs.Stores.{TellsAt}

module _ {D : Type 0} (g : Ghosts D) where
  -- the first n of these pages of a file stand at their addresses, where a drive tells them
  abbrev pub FirstStand : FileMap → ℕ → List (List ℕ) → ℕ → List D → Type 0
  FirstStand map file pages n drives =
      (page : ℕ) (bytes : List ℕ) (drive : D) → page < n → slice_get pages page ≡ Some bytes → slice_get drives (drive_of map page) ≡ Some drive →
      TellsAt (g.pages drive) (address_of map file page) bytes

  -- all of them do
  abbrev pub AllStand : FileMap → ℕ → List (List ℕ) → List D → Type 0
  AllStand map file pages drives =
      (page : ℕ) (bytes : List ℕ) (drive : D) → slice_get pages page ≡ Some bytes → slice_get drives (drive_of map page) ≡ Some drive →
      TellsAt (g.pages drive) (address_of map file page) bytes
