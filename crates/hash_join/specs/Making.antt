-- The steps in which a table is made.
use Rattle.std.specs.Prelude.{◌≡◌, ℕ, Bool, List, filter, map}
use Rattle.std.specs.List.Sorted.{IsPermutation, IsSortedBy, IsStableBy}
use Rattle.std.specs.Ordering.{is_lt, nat_cmp}
use Rattle.rows.specs.declared.value.Value.{Value}
use Rattle.hash_join.specs.declared.buckets.Entry.{Entry}
use Rattle.hash_join.specs.declared.table.RowPlace.{RowPlace}
use Rattle.hash_join.specs.Found.{comes_first, entry_cmp, hash_at, key_at}
use Rattle.hash_join.specs.Table.{Table, has_key}

-- a place with the hash of the key of its row
abbrev pub entry_of : Table → RowPlace → Entry
entry_of table at = record { hash = hash_at table at; at = at }

-- the places of entries
abbrev pub places_in_order : List Entry → List RowPlace
places_in_order entries = map (λ entry. entry.at) entries

abbrev pub has_less_hash : Entry → Entry → Bool
has_less_hash a b = is_lt (nat_cmp a.hash b.hash)

-- an entry's hash and the key of its row
abbrev pub pair_of : Table → Entry → ℕ × List Value
pair_of table entry = (entry.hash, key_at table entry.at)

abbrev pub goes_first : Table → Entry → Entry → Bool
goes_first table a b = is_lt (entry_cmp (pair_of table a) (pair_of table b))

-- the same elements in the order of a test, those of which neither goes first as they stood
pub record IsSorting {X : Type 0} (test : X → X → Bool) (before after : List X) : Type 0 where
  pub same : IsPermutation before after
  pub sorted : IsSortedBy test after
  pub stable : IsStableBy test before after

-- entries of some places, by their hashes and then by the keys of their rows, those of equal keys as they stood
pub record AreOrdered (table : Table) (before : List RowPlace) (entries : List Entry) : Type 0 where
  pub are : entries ≡ map (entry_of table) (places_in_order entries)
  pub sorted : IsSortedBy (comes_first table) (places_in_order entries)
  pub found : (key : List Value) → filter (has_key table key) (places_in_order entries) ≡ filter (has_key table key) before
