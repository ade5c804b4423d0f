-- Where a page of a file is fetched.
use Rattle.std.specs.Prelude.{◌≡◌, ℕ, ◌<◌, slice_get, Some}
use Rattle.heap_page.specs.declared.map.PageFile.{PageFile}
use Rattle.heap_page.specs.declared.map.FileMap.{FileMap}
use Rattle.heap_page.specs.Maps.{address_of, drive_of, needs_of}
use Rattle.buffer_pool.specs.declared.place.Place.{Place}

-- the page of this file is of this kind, and stands at this address of this drive
pub record IsPlaced (files : FileMap) (file page : ℕ) (place : Place) : Type 0 where
  pub drive : place.drive ≡ drive_of files page
  pub address : place.address ≡ address_of files file page
  pub kind : (f : PageFile) → slice_get files.files.items file ≡ Some f → f.kind ≡ place.kind
  pub on_drive : place.drive < files.drives
  pub within : place.address < needs_of files place.drive
