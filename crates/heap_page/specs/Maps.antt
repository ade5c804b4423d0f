-- Where the pages of files stand on drives.
use Rattle.std.specs.Prelude.{◌≡◌, ℕ, zero, suc, ◌+◌, ◌/◌, ◌%◌, ◌<◌, ◌==◌, ◌^◌, List, [], ◌∷◌, take, if◌then◌else◌, slice_get, Some}
use Rattle.heap_page.specs.declared.map.PageFile.{PageFile}
use Rattle.heap_page.specs.declared.map.FileMap.{FileMap}

-- how many of the first n pages of a file stand on drive d of K: those whose number leaves d when it is divided by K
abbrev pub share : ℕ → ℕ → ℕ → ℕ
share K d zero = 0
share K d (suc n) = (if n % K == d then 1 else 0) + share K d n

-- how many pages of these files stand there
abbrev pub shares : ℕ → ℕ → List PageFile → ℕ
shares K d [] = 0
shares K d (f ∷ fs) = share K d f.pages + shares K d fs

-- how many pages these files have
abbrev pub pages_of_all : List PageFile → ℕ
pages_of_all [] = 0
pages_of_all (f ∷ fs) = f.pages + pages_of_all fs

-- where a file begins on a drive: behind the pages of the files before it
abbrev pub base : FileMap → ℕ → ℕ → ℕ
base map file d = shares map.drives d (take file map.files.items)

-- how many pages stand on a drive
abbrev pub needs_of : FileMap → ℕ → ℕ
needs_of map d = shares map.drives d map.files.items

abbrev pub drive_of : FileMap → ℕ → ℕ
drive_of map page = page % map.drives

abbrev pub address_of : FileMap → ℕ → ℕ → ℕ
address_of map file page = base map file (drive_of map page) + page / map.drives

-- the file is there, with this number of pages
abbrev pub HasPages : List PageFile → ℕ → ℕ → Type 0
HasPages files file n = (f : PageFile) × (slice_get files file ≡ Some f) × (f.pages ≡ n)

-- the page is in the file
abbrev pub HasPage : List PageFile → ℕ → ℕ → Type 0
HasPage files file page = (f : PageFile) × (slice_get files file ≡ Some f) × (page < f.pages)

-- a page of the file stands at this address of this drive
abbrev pub IsPlace : FileMap → ℕ → ℕ → ℕ → Type 0
IsPlace map file d address = (page : ℕ) × HasPage map.files.items file page × (drive_of map page ≡ d) × (address_of map file page ≡ address)

-- there is a drive, and the number of all pages has 32 bits
pub record IsMap (map : FileMap) : Type 0 where
  pub some : 0 < map.drives
  pub small : pages_of_all map.files.items < 2 ^ 32
