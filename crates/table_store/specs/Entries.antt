-- The entries of an index on a column of a table.
use Rattle.std.specs.Prelude.{ℕ, ◌+◌, nat_le, not, List, length, map, slice_index_or, if◌then◌else◌}
use Rattle.std.specs.List.{filter, flat_map, range_with_len, zip}
use Rattle.std.specs.List.Sorted.{IsPermutation}
use Rattle.lists.specs.Arranged.{Ascends}
use Rattle.heap_page.specs.Blocks.{item_weight}
use Rattle.key_index.specs.Entries.{entry_cmp}
use Rattle.rows.specs.declared.field.ColType.{ColType}
use Rattle.rows.specs.declared.field.ColType.TheVariants.{Int4}
use Rattle.rows.specs.declared.plain.Column.{Column}
use Rattle.rows.specs.declared.plain.KeyEntry.{KeyEntry}
use Rattle.rows.specs.declared.value.Value.{Value}
use Rattle.rows.specs.Values.{column_of, is_null}
use Rattle.table_store.specs.declared.entries.Filling.{Filling}

-- the type of a column
abbrev pub type_at : List Column → ℕ → ColType
type_at columns column = slice_index_or (map (λ c. c.col_type) columns) column Int4

-- a page of a heap file, and a slot on it
pub record Place : Type 0 where
  pub page : ℕ
  pub slot : ℕ

-- the places of the items of one page: its slots from 0 on
abbrev pub places_on : ℕ → List (List ℕ) → List Place
places_on page items = map (λ slot. record { page = page; slot = slot }) (range_with_len 0 (length items))

-- the places of the items of some pages, whose numbers begin with this one
abbrev pub places_from : ℕ → List (List (List ℕ)) → List Place
places_from first blocks = flat_map (λ numbered. places_on numbered.0 numbered.1) (zip (range_with_len first (length blocks)) blocks)

-- the place of each item of a heap file, in order
abbrev pub places_of : List (List (List ℕ)) → List Place
places_of blocks = places_from 0 blocks

-- the value of each row in a column
abbrev pub keys_of : ℕ → List (List Value) → List Value
keys_of column rows = map (λ row. column_of row column) rows

-- a key at a place
abbrev pub entry_at : Value → Place → KeyEntry
entry_at key at = record { key = key; page = at.page; slot = at.slot }

-- each key beside the place of its row
abbrev pub at_places : List Value → List Place → List KeyEntry
at_places keys places = map (λ pair. entry_at pair.0 pair.1) (zip keys places)

-- the entries whose key isn't null
abbrev pub keyed : List KeyEntry → List KeyEntry
keyed entries = filter (λ e. not (is_null e.key)) entries

-- for each row whose key isn't null its key, page and slot, in the order of the rows
abbrev pub placed : ℕ → List (List Value) → List (List (List ℕ)) → List KeyEntry
placed column rows blocks = keyed (at_places (keys_of column rows) (places_of blocks))

-- The entries of an index on a column of these rows, whose items stand in these pages: those of the rows whose key isn't null, in
-- order of key, page and slot. There is only one such list.
pub record IsIndexOf (column : ℕ) (rows : List (List Value)) (blocks : List (List (List ℕ))) (entries : List KeyEntry) : Type 0 where
  pub same : IsPermutation (placed column rows blocks) entries
  pub ordered : Ascends entry_cmp entries

-- ---- pages that are filled item by item

-- where an item is put: on the page being filled where it fits there, and else first on the next page
abbrev pub put_at : Filling → List ℕ → Filling
put_at filling item = if nat_le (filling.used + item_weight item) 8172 then filling else record { page = filling.page + 1; slot = 0; used = 0 }

-- the page behind an item that was put there
abbrev pub behind : Filling → List ℕ → Filling
behind filling item = record { page = filling.page; slot = filling.slot + 1; used = filling.used + item_weight item }
