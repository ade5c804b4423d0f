-- The image of files that stand on drives.
use Rattle.std.specs.Prelude.{ℕ, List, [], ◌∷◌, map, slice_index_or, Option, Some, None, option_map}
use Rattle.xp_outside.specs.declared.drive.Drive.{Ghosts}
use Rattle.heap_page.specs.declared.map.FileMap.{FileMap}
use Rattle.heap_page.specs.Maps.{address_of, drive_of}

-- the pages of all drives, where each of them tells
abbrev pub all_told : List (Option (List (List ℕ))) → Option (List (List (List ℕ)))
all_told [] = Some []
all_told (None ∷ rest) = None
all_told (Some pages ∷ rest) = option_map (λ others. pages ∷ others) (all_told rest)

-- a page of a file is the page at its place
abbrev pub page_at : FileMap → List (List (List ℕ)) → ℕ → ℕ → List ℕ
page_at files drives file page = slice_index_or (slice_index_or drives (drive_of files page) []) (address_of files file page) []

-- what the drives tell of the pages of the files: all of them, or nothing
abbrev pub image_on : {D : Type 0} → Ghosts D → FileMap → List D → Option (ℕ → ℕ → List ℕ)
image_on g files drives = option_map (page_at files) (all_told (map g.pages drives))
