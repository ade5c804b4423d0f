-- Tables that stand on drives, as the planner is told of them.
use Rattle.std.specs.Prelude.{◌≡◌, ℕ, ◌≤◌, List, length, map, slice_get, Some, is_some, All}
use Rattle.std.specs.List.{filter_map}
use Rattle.rows.specs.declared.plain.KeyIndex.{KeyIndex}
use Rattle.rows.specs.declared.plain.Relation.{Relation}
use Rattle.table_store.specs.declared.database.Laid.{Laid}
use Rattle.table_store.specs.declared.files.StoredTable.{StoredTable}
use Rattle.table_store.specs.Databases.{IsLaid}
use Rattle.table_store.specs.Files.{IsStorable}

-- these tables, with these numbers of rows, are laid so; a table has an index exactly where its relation has one
pub record AreOf (relations : List Relation) (rows : List ℕ) (laid : Laid) (drives : ℕ) (tables : List StoredTable) : Type 0 where
  pub stand : IsLaid tables drives laid
  pub storable : All IsStorable tables
  pub count : length tables ≡ length relations
  pub few : length tables ≤ 16
  pub counts : rows ≡ map (λ t. length t.items) tables
  pub indexed : (i : ℕ) (relation : Relation) (table : StoredTable) → slice_get relations i ≡ Some relation → slice_get tables i ≡ Some table → is_some table.index ≡ is_some relation.index

-- there are such tables
pub record Stands (relations : List Relation) (rows : List ℕ) (laid : Laid) (drives : ℕ) : Type 0 where
  pub tables : List StoredTable
  pub are : AreOf relations rows laid drives tables

-- the indexes of the tables that have one, in the order of the index files
abbrev pub laid_indexes : Laid → List KeyIndex
laid_indexes laid = filter_map (λ index. index) laid.indexes.items
