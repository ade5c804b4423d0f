-- Indexes that a source of pages tells.
use Rattle.std.specs.Prelude.{◌≡◌, ℕ, ◌+◌, List, length, slice_get, Option, Some}
use Rattle.key_index.specs.Files.{HoldsIndex, index_of}
use Rattle.rows.specs.declared.plain.Relation.{Relation}
use Rattle.table_store.specs.declared.database.Laid.{Laid}
use Rattle.table_store.specs.declared.files.StoredIndex.{StoredIndex}
use Rattle.table_store.specs.declared.files.StoredTable.{StoredTable}
use Rattle.table_store.specs.Files.{file_number, table_blocks}
use Rattle.query_planner.specs.Stored.{AreOf}

-- the index that stands in this file, over a heap file with so many pages
abbrev pub HoldsStored : (ℕ → ℕ → List ℕ) → ℕ → ℕ → StoredIndex → Type 0
HoldsStored pages file heap_pages index = HoldsIndex (index_of file index.key_type heap_pages index.entries) (pages file) index.entries

-- the source tells the pages of the index of each of these tables
pub record AreTold (relations : List Relation) (rows : List ℕ) (laid : Laid) (tables : List StoredTable) (image : Option (ℕ → ℕ → List ℕ)) : Type 0 where
  pub are : AreOf relations rows laid laid.map.drives tables
  pub pages : ℕ → ℕ → List ℕ
  pub tells : image ≡ Some pages
  pub indexes : (i : ℕ) (table : StoredTable) (index : StoredIndex) → slice_get tables i ≡ Some table → table.index ≡ Some index → HoldsStored pages (file_number tables i + 1) (length (table_blocks table)) index
