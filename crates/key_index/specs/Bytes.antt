-- The bytes of an index page.
use Rattle.std.specs.Prelude.{ℕ, zero, suc, ◌-◌, List, ◌++◌, length}
use Rattle.std.specs.Int.{w16, w32, to_be_bytes}
use Rattle.std.specs.List.{flat_map}
use Rattle.heap_page.specs.declared.head.FileKind.TheVariants.{Index}
use Rattle.heap_page.specs.Pages.{magic_of, version_of, zeros}
use Rattle.rows.specs.RowBytes.{value_bytes}
use Rattle.key_index.specs.Entries.{Item}

-- On a leaf the heap page in four bytes and the slot in two; above, the page's number in four bytes and the entries left of it in four.
abbrev pub tail_bytes : ℕ → Item → List ℕ
tail_bytes zero e = to_be_bytes w32 e.page ++ to_be_bytes w16 e.slot
tail_bytes (suc level) e = to_be_bytes w32 e.page ++ to_be_bytes w32 e.left

-- the key as in a row, and then the rest
abbrev pub item_bytes : ℕ → Item → List ℕ
item_bytes level e = value_bytes e.key ++ tail_bytes level e

abbrev pub weight : ℕ → Item → ℕ
weight level e = length (item_bytes level e)

-- the head: magic bytes, version, count of items, file number, page number, level and two zeros
unfoldable pub head_of : ℕ → ℕ → ℕ → ℕ → List ℕ
head_of file number level count =
    magic_of Index ++ (to_be_bytes w16 (version_of Index) ++ (to_be_bytes w16 count ++ (to_be_bytes w32 file ++ (to_be_bytes w32 number ++ (to_be_bytes w16 level ++ to_be_bytes w16 0)))))

-- the page with these items: its head, the items without gaps, and zeros
unfoldable pub page_of : ℕ → ℕ → ℕ → List Item → List ℕ
page_of file number level items =
    head_of file number level (length items)
    ++ (flat_map (item_bytes level) items ++ zeros (8172 - length (flat_map (item_bytes level) items)))
