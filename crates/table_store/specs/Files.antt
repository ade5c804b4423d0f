-- The files of tables.
use Rattle.std.specs.Prelude.{ℕ, ◌+◌, ◌≤◌, List, [], ◌∷◌, length, map, take, Option, Some, None, IfSome, All}
use Rattle.std.specs.List.{flat_map}
use Rattle.heap_page.specs.declared.head.FileKind.TheVariants.{Heap, Index}
use Rattle.heap_page.specs.declared.map.PageFile.{PageFile}
use Rattle.heap_page.specs.Blocks.{FitsAlone, blocks_of, item_weight}
use Rattle.key_index.specs.Entries.{AreEntries}
use Rattle.key_index.specs.Files.{index_of, index_pages}
use Rattle.rows.specs.declared.plain.Column.{Column}
use Rattle.rows.specs.declared.plain.KeyIndex.{KeyIndex}
use Rattle.rows.specs.declared.value.Value.{Value}
use Rattle.rows.specs.RowBytes.{row_bytes}
use Rattle.table_store.specs.declared.files.StoredIndex.{StoredIndex}
use Rattle.table_store.specs.declared.files.StoredTable.{StoredTable}

-- the bytes of each row, in order
abbrev pub encodings : List Column → List (List Value) → List (List ℕ)
encodings columns rows = map (row_bytes columns) rows

-- the pages of a table, each as its items
abbrev pub table_blocks : StoredTable → List (List (List ℕ))
table_blocks table = blocks_of item_weight 8172 table.items

-- entries of an index over a heap file with so many pages
abbrev pub IsStorableIndex : ℕ → StoredIndex → Type 0
IsStorableIndex heap_pages index = AreEntries index.key_type heap_pages index.entries

-- at most 1,000,000 items, each of which fits an empty page, and an index only over their pages
pub record IsStorable (table : StoredTable) : Type 0 where
  pub few : length table.items ≤ 1000000
  pub fit : All FitsAlone table.items
  pub index : IfSome table.index (IsStorableIndex (length (table_blocks table)))

abbrev pub heap_file : StoredTable → PageFile
heap_file table = record { kind = Heap; pages = length (table_blocks table) }

-- the number of an index file stands in its pages and doesn't change how many they are
abbrev pub index_file : StoredIndex → PageFile
index_file index = record { kind = Index; pages = length (index_pages 0 index.entries) }

abbrev pub index_files : Option StoredIndex → List PageFile
index_files None = []
index_files (Some index) = index_file index ∷ []

-- a heap file, and an index file where the table has an index
abbrev pub files_of_table : StoredTable → List PageFile
files_of_table table = heap_file table ∷ index_files table.index

abbrev pub files_of : List StoredTable → List PageFile
files_of tables = flat_map files_of_table tables

-- the number of a table's heap file: that of the files of the tables before it
abbrev pub file_number : List StoredTable → ℕ → ℕ
file_number tables table = length (files_of (take table tables))

-- the numbers of an index whose file has this number
abbrev pub numbers_in : ℕ → ℕ → Option StoredIndex → Option KeyIndex
numbers_in file heap_pages None = None
numbers_in file heap_pages (Some index) = Some (index_of file index.key_type heap_pages index.entries)

-- the numbers of a table's index: its file is the one behind the heap file
abbrev pub index_numbers : List StoredTable → ℕ → StoredTable → Option KeyIndex
index_numbers tables number table = numbers_in (file_number tables number + 1) (length (table_blocks table)) table.index
