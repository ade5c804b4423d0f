-- The entries of an index: what they are, and their order.
use Rattle.std.specs.Prelude.{◌≡◌, ℕ, suc, ◌-◌, ◌<◌, ◌≤◌, false, List, [], ◌∷◌, length, slice_get, Some}
use Rattle.std.specs.List.{AllByRecursion, filter}
use Rattle.std.specs.declared.cmp.Ordering.{Ordering}
use Rattle.std.specs.Ordering.{is_gt, is_lt, is_le, nat_cmp, ordering_then}
use Rattle.lists.specs.Arranged.{Ascends}
use Rattle.rows.specs.declared.field.ColType.{ColType}
use Rattle.rows.specs.declared.plain.KeyEntry.{KeyEntry}
use Rattle.rows.specs.declared.value.Value.{Value}
use Rattle.rows.specs.declared.value.Value.TheVariants.{Null}
use Rattle.rows.specs.RowBytes.{IsOfType}
use Rattle.rows.specs.Values.{value_cmp}

-- by key, then by heap page, then by slot
abbrev pub entry_cmp : KeyEntry → KeyEntry → Ordering
entry_cmp a b = ordering_then (value_cmp a.key b.key) (ordering_then (nat_cmp a.page b.page) (nat_cmp a.slot b.slot))

-- a key of the type, on a page of the heap file, in a slot of two bytes
abbrev pub IsEntry : ColType → ℕ → KeyEntry → Type 0
IsEntry key_type heap_pages e = IsOfType key_type e.key × (e.page < heap_pages) × (e.slot < 65536)

-- the entries of an index with keys of a type, over a heap file with so many pages: in order, and at most 1,000,000
pub record AreEntries (key_type : ColType) (heap_pages : ℕ) (entries : List KeyEntry) : Type 0 where
  pub few : length entries ≤ 1000000
  pub ordered : Ascends entry_cmp entries
  pub each : AllByRecursion (IsEntry key_type heap_pages) entries

-- the entry at this place isn't below the one before it
abbrev pub Follows : List KeyEntry → ℕ → Type 0
Follows entries place = (a b : KeyEntry) → 0 < place → slice_get entries (place - 1) ≡ Some a → slice_get entries place ≡ Some b → is_gt (entry_cmp a b) ≡ false

-- how many entries have a smaller key
abbrev pub number_below : Value → List KeyEntry → ℕ
number_below key entries = length (filter (λ e. is_lt (value_cmp e.key key)) entries)

-- how many entries have this key or a smaller one
abbrev pub number_upto : Value → List KeyEntry → ℕ
number_upto key entries = length (filter (λ e. is_le (value_cmp e.key key)) entries)

-- ---- what stands on the pages of an index

-- On a leaf it is an entry: its key, heap page and slot. On a page above it stands for a page: the first key there, and the page's number.
-- `left` is how many entries stand left of the entry, or of all entries below the page.
pub record Item : Type 0 where
  pub key : Value
  pub page : ℕ
  pub slot : ℕ
  pub left : ℕ

-- no item
abbrev pub blank : Item
blank = record { key = Null; page = 0; slot = 0; left = 0 }

-- the items of the leaves, where this number of entries stand left of them
abbrev pub items_from : ℕ → List KeyEntry → List Item
items_from number [] = []
items_from number (e ∷ es) = record { key = e.key; page = e.page; slot = e.slot; left = number } ∷ items_from (suc number) es

abbrev pub items_of : List KeyEntry → List Item
items_of entries = items_from 0 entries
