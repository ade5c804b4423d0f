-- The bytes of a heap page with these items, and what is wrong with other bytes.
use Rattle.std.specs.Prelude.{◌≡◌, ℕ, zero, suc, ◌+◌, ◌-◌, ◌*◌, ◌^◌, ◌<◌, ◌≤◌, ◌==◌, nat_le, not, Bool, ◌&&◌, List, [], ◌∷◌, ◌++◌, length, slice_range, take, codes, if◌then◌else◌, Option, Some, None}
use Rattle.std.specs.Int.{w16, w32, to_be_bytes}
use Rattle.std.specs.List.{list_all}
use Rattle.std.specs.Str.{bytes_eq}
use Rattle.heap_page.specs.declared.head.FileKind.{FileKind}
use Rattle.heap_page.specs.declared.head.FileKind.TheVariants.{Heap, Index}
use Rattle.heap_page.specs.Fields.{short_at, long_at}

abbrev pub magic_of : FileKind → List ℕ
magic_of Heap = codes "XPHP"
magic_of Index = codes "XPIX"

abbrev pub version_of : FileKind → ℕ
version_of Heap = 2
version_of Index = 1

-- ---- the page of some items

abbrev pub zeros : ℕ → List ℕ
zeros zero = []
zeros (suc n) = 0 ∷ zeros n

-- how many bytes the items have
abbrev pub total : List (List ℕ) → ℕ
total [] = 0
total (x ∷ xs) = length x + total xs

-- the head, the line pointers and the items are no more than a page
abbrev pub Fits : List (List ℕ) → Type 0
Fits items = 20 + 4 * length items + total items ≤ 8192

-- how many bytes of their page are free
abbrev pub free_bytes : List (List ℕ) → ℕ
free_bytes items = 8192 - (20 + 4 * length items + total items)

-- an offset and a length for each item, where the first one ends at `top` and each other one where the one before it begins
abbrev pub pointers : ℕ → List (List ℕ) → List ℕ
pointers top [] = []
pointers top (x ∷ xs) = to_be_bytes w16 (top - length x) ++ (to_be_bytes w16 (length x) ++ pointers (top - length x) xs)

-- the last item first
abbrev pub stacked : List (List ℕ) → List ℕ
stacked [] = []
stacked (x ∷ xs) = stacked xs ++ x

-- the head: magic bytes, version, count of items, file number, page number, upper and two zeros
unfoldable pub head_of : ℕ → ℕ → ℕ → ℕ → List ℕ
head_of file number count upper =
    magic_of Heap ++ (to_be_bytes w16 2 ++ (to_be_bytes w16 count ++ (to_be_bytes w32 file ++ (to_be_bytes w32 number ++ (to_be_bytes w16 upper ++ to_be_bytes w16 0)))))

-- the page with these items
unfoldable pub page_of : ℕ → ℕ → List (List ℕ) → List ℕ
page_of file number items =
    head_of file number (length items) (8192 - total items)
    ++ (pointers 8192 items ++ (zeros (free_bytes items) ++ stacked items))

-- ---- the items of a page

-- what stands where a line pointer points
abbrev pub item_at : List ℕ → ℕ → List ℕ
item_at bytes slot = slice_range bytes (short_at bytes (20 + 4 * slot)) (short_at bytes (20 + 4 * slot) + short_at bytes (22 + 4 * slot))

-- the items of n slots from this one on
abbrev pub items_from : List ℕ → ℕ → ℕ → List (List ℕ)
items_from bytes slot zero = []
items_from bytes slot (suc n) = item_at bytes slot ∷ items_from bytes (suc slot) n

abbrev pub items_of : List ℕ → List (List ℕ)
items_of bytes = items_from bytes 0 (short_at bytes 6)

abbrev pub file_of : List ℕ → ℕ
file_of bytes = long_at bytes 8

abbrev pub number_of : List ℕ → ℕ
number_of bytes = long_at bytes 12

-- each item of n slots ends where it must, the first one at `top`, and the last one begins at `upper`
abbrev pub is_stacked : List ℕ → ℕ → ℕ → ℕ → ℕ → Bool
is_stacked bytes upper top slot zero = top == upper
is_stacked bytes upper top slot (suc n) =
    (short_at bytes (20 + 4 * slot) + short_at bytes (22 + 4 * slot) == top) && is_stacked bytes upper (short_at bytes (20 + 4 * slot)) (suc slot) n

-- ---- the rules

abbrev pub first_of : Option ℕ → Option ℕ → Option ℕ
first_of (Some rule) other = Some rule
first_of None other = other

-- the first broken rule of a head: the magic bytes, the version, the two zeros, the file number, the page number
unfoldable pub head_fault : FileKind → ℕ → ℕ → List ℕ → Option ℕ
head_fault kind file number bytes =
    if not (bytes_eq (take 4 bytes) (magic_of kind)) then Some 1
    else if not (short_at bytes 4 == version_of kind) then Some 2
    else if not (short_at bytes 18 == 0) then Some 3
    else if not (long_at bytes 8 == file) then Some 4
    else if not (long_at bytes 12 == number) then Some 5
    else None

-- the first broken rule behind it: where upper lies, where each item ends, that the free bytes are zero
unfoldable pub body_fault : List ℕ → Option ℕ
body_fault bytes =
    let end = 20 + 4 * short_at bytes 6 in
    let upper = short_at bytes 16 in
    if not (nat_le end upper && nat_le upper 8192) then Some 6
    else if not (is_stacked bytes upper 8192 0 (short_at bytes 6)) then Some 7
    else if not (list_all (λ b. b == 0) (slice_range bytes end upper)) then Some 8
    else None

-- the first broken rule of a heap page
abbrev pub fault_of : ℕ → ℕ → List ℕ → Option ℕ
fault_of file number bytes = first_of (head_fault Heap file number bytes) (body_fault bytes)

-- the page with some items, of some file and number
pub record IsHeapPage (bytes : List ℕ) : Type 0 where
  pub file : ℕ
  pub number : ℕ
  pub items : List (List ℕ)
  pub file_small : file < 2 ^ 32
  pub number_small : number < 2 ^ 32
  pub fits : Fits items
  pub len : length bytes ≡ 8192
  pub same : bytes ≡ page_of file number items

-- each item stands within the bytes
pub record HoldsItems (bytes : List ℕ) (count : ℕ) : Type 0 where
  pub slots : 20 + 4 * count ≤ length bytes
  pub within : (slot : ℕ) → slot < count → short_at bytes (20 + 4 * slot) + short_at bytes (22 + 4 * slot) ≤ length bytes
