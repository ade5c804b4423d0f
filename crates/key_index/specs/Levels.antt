-- The levels of an index. Each is a list of pages, and each page is the list of its items.
use Rattle.std.specs.Prelude.{◌≡◌, ℕ, zero, suc, ◌+◌, ◌<◌, nat_lt, List, [], ◌∷◌, length, slice_index_or, if◌then◌else◌}
use Rattle.heap_page.specs.Blocks.{AreBlocks, blocks_of}
use Rattle.rows.specs.declared.plain.KeyEntry.{KeyEntry}
use Rattle.key_index.specs.Entries.{Item, items_of}
use Rattle.key_index.specs.Bytes.{weight}

-- the item over a page that begins with this one
abbrev pub up : ℕ → Item → Item
up page e = record { key = e.key; page = page; slot = 0; left = e.left }

-- the items over pages, whose numbers begin with `base`
abbrev pub firsts : ℕ → List (List Item) → List Item
firsts base [] = []
firsts base ([] ∷ pages) = firsts (suc base) pages
firsts base ((x ∷ xs) ∷ pages) = up base x ∷ firsts (suc base) pages

-- Each level is cut into pages, a new one exactly where the next item doesn't fit, and while a level has several pages, the next one is
-- made over them and follows it in the file.
abbrev pub AreLevels : ℕ → ℕ → List Item → List (List (List Item)) → Type 0
AreLevels level base items [] = items ≡ []
AreLevels level base items (b ∷ []) = AreBlocks (weight level) 8172 items b × (length b ≡ 1)
AreLevels level base items (b ∷ c ∷ more) = AreBlocks (weight level) 8172 items b × ((1 < length b) × AreLevels (suc level) (base + length b) (firsts base b) (c ∷ more))

-- the levels as a function, which makes so many at most
unfoldable pub levels_from : ℕ → ℕ → ℕ → List Item → List (List (List Item))
levels_from zero level base items = []
levels_from (suc most) level base items =
    let b = blocks_of (weight level) 8172 items in
    b ∷ (if nat_lt 1 (length b) then levels_from most (suc level) (base + length b) (firsts base b) else [])

-- the levels over some entries: no more than there are entries
abbrev pub levels_of : List KeyEntry → List (List (List Item))
levels_of entries = levels_from (length entries) 0 0 (items_of entries)

-- ---- one level of them

-- the items of level k
abbrev pub items_at : ℕ → List Item → List (List (List Item)) → ℕ → List Item
items_at base items levels zero = items
items_at base items [] (suc k) = []
items_at base items (b ∷ bs) (suc k) = items_at (base + length b) (firsts base b) bs k

-- the number of the first page of level k
abbrev pub base_at : ℕ → List (List (List Item)) → ℕ → ℕ
base_at base levels zero = base
base_at base [] (suc k) = base
base_at base (b ∷ bs) (suc k) = base_at (base + length b) bs k

-- the pages of level k
abbrev pub pages_at : List (List (List Item)) → ℕ → List (List Item)
pages_at levels k = slice_index_or levels k []
