-- What is kept of a table, so that a key is found.
use Rattle.std.specs.Prelude.{◌≡◌, ◌<◌, ◌≤◌, ◌-◌, ◌^◌, ℕ, Bool, true, false, List, [], filter, length, map, slice_index_or}
use Rattle.std.specs.List.Sorted.{IsPartitionPoint, IsSortedBy}
use Rattle.std.specs.Ordering.{is_le, is_lt, nat_cmp, ordering_then}
use Rattle.std.specs.declared.cmp.Ordering.{Ordering}
use Rattle.std.specs.Cmp.Lexicographic.{slice_cmp}
use Rattle.rows.specs.declared.value.Value.{Value}
use Rattle.rows.specs.Values.{value_cmp}
use Rattle.hash_join.specs.declared.table.RowPlace.{RowPlace}
use Rattle.hash_join.specs.Hash.{bucket_of, hash_of}
use Rattle.hash_join.specs.Table.{Table, row_at, key_of, has_key, places}

-- the key of the row at a place
abbrev pub key_at : Table → RowPlace → List Value
key_at table at = key_of table.columns (row_at table.lists at)

-- the hash of that key
abbrev pub hash_at : Table → RowPlace → ℕ
hash_at table at = hash_of (key_at table at)

-- whether the key of the row at the first place is below that of the second
abbrev pub is_below : Table → RowPlace → RowPlace → Bool
is_below table a b = is_lt (slice_cmp value_cmp (key_at table a) (key_at table b))

-- the order of hashes, and of keys where their hashes are equal
abbrev pub entry_cmp : ℕ × List Value → ℕ × List Value → Ordering
entry_cmp a b = ordering_then (nat_cmp a.0 b.0) (slice_cmp value_cmp a.1 b.1)

abbrev pub pair_at : Table → RowPlace → ℕ × List Value
pair_at table at = (hash_at table at, key_at table at)

-- whether the row at the first place is kept before that of the second, whichever came first
abbrev pub comes_first : Table → RowPlace → RowPlace → Bool
comes_first table a b = is_lt (entry_cmp (pair_at table a) (pair_at table b))

-- where the hashes of each bucket begin among hashes in order, and behind the last bucket the end
pub record AreStarts (hashes starts : List ℕ) : Type 0 where
  pub some : 1 < length starts
  pub few : length starts ≤ 2 ^ 32
  pub within : (number : ℕ) → number < length starts → slice_index_or starts number 0 ≤ length hashes
  pub each : (number : ℕ) → number < length starts
      → IsPartitionPoint (λ hash. bucket_of (length starts - 1) hash < number) (λ hash. number ≤ bucket_of (length starts - 1) hash) hashes (slice_index_or starts number 0)

-- from one place up to another there are the hashes that equal one, among hashes in order
pub record IsRange (hashes : List ℕ) (hash from to : ℕ) : Type 0 where
  pub order : from ≤ to
  pub within : to ≤ length hashes
  pub below : IsPartitionPoint (λ other. is_lt (nat_cmp other hash) ≡ true) (λ other. is_lt (nat_cmp other hash) ≡ false) hashes from
  pub upto : IsPartitionPoint (λ other. is_le (nat_cmp other hash) ≡ true) (λ other. is_le (nat_cmp other hash) ≡ false) hashes to

-- the places of all rows by the hashes of their keys and then by the keys, those of equal keys in order. Without key columns
-- there are no hashes
pub record AreFound (table : Table) (places' : List RowPlace) (hashes starts : List ℕ) : Type 0 where
  pub sorted : IsSortedBy (comes_first table) places'
  pub found : (key : List Value) → filter (has_key table key) places' ≡ filter (has_key table key) (places table.lists)
  pub hashed : (table.columns ≡ [] → ⊥) → hashes ≡ map (hash_at table) places'
  pub begun : (table.columns ≡ [] → ⊥) → AreStarts hashes starts
