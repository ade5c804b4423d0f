-- The pages of an index file, and the numbers of an index.
use Rattle.std.specs.Prelude.{◌≡◌, ℕ, suc, ◌+◌, ◌^◌, ◌<◌, List, [], ◌∷◌, ◌++◌, length, slice_get, Some}
use Rattle.rows.specs.declared.field.ColType.{ColType}
use Rattle.rows.specs.declared.plain.KeyEntry.{KeyEntry}
use Rattle.rows.specs.declared.plain.KeyIndex.{KeyIndex}
use Rattle.key_index.specs.Entries.{AreEntries, Item}
use Rattle.key_index.specs.Levels.{levels_of}
use Rattle.key_index.specs.Bytes.{page_of}

-- the bytes of the pages of one level, whose numbers begin with this one
abbrev pub level_pages : ℕ → ℕ → ℕ → List (List Item) → List (List ℕ)
level_pages file level number [] = []
level_pages file level number (b ∷ pages) = page_of file number level b ∷ level_pages file level (suc number) pages

-- those of all levels in turn
abbrev pub pages_of_levels : ℕ → ℕ → ℕ → List (List (List Item)) → List (List ℕ)
pages_of_levels file level base [] = []
pages_of_levels file level base (b ∷ levels) = level_pages file level base b ++ pages_of_levels file (suc level) (base + length b) levels

-- the bytes of each page of an index file with these entries: the leaves, then each level over the one before it
abbrev pub index_pages : ℕ → List KeyEntry → List (List ℕ)
index_pages file entries = pages_of_levels file 0 0 (levels_of entries)

-- the index over these entries
abbrev pub index_of : ℕ → ColType → ℕ → List KeyEntry → KeyIndex
index_of file key_type heap_pages entries = record {
  file = file;
  key_type = key_type;
  entries = length entries;
  pages = length (index_pages file entries);
  height = length (levels_of entries);
  heap_pages = heap_pages;
}

-- These pages are those of the index over some entries, and the index has their numbers.
pub record HoldsIndex (index : KeyIndex) (pages : ℕ → List ℕ) (entries : List KeyEntry) : Type 0 where
  pub small : (index.file < 2 ^ 32) × (index.heap_pages < 2 ^ 32)
  pub legal : AreEntries index.key_type index.heap_pages entries
  pub numbers : index ≡ index_of index.file index.key_type index.heap_pages entries
  pub told : (n : ℕ) (bytes : List ℕ) → slice_get (index_pages index.file entries) n ≡ Some bytes → pages n ≡ bytes
