-- What is known of tables that are laid on drives: their files, and the numbers of their indexes.
use Rattle.std.proofs.Common.{◌≡◌, ℕ, zero, suc, ◌+◌, ◌<◌, ◌≤◌, Option, Some, None, List, [], ◌∷◌, length, get_or, refl, ap, ◌∙◌, arith}
use Rattle.std.specs.Prelude.{slice_get}
use Rattle.heap_page.specs.declared.map.PageFile.{PageFile}
use Rattle.heap_page.specs.Maps.{pages_of_all}
use Rattle.heap_page.proofs.Found.{get_below, one_at, some_at, there}
use Rattle.key_index.specs.Files.{index_of}
use Rattle.key_index.specs.Searches.{HasIndex, IsUsable}
use Rattle.rows.specs.declared.plain.KeyIndex.{KeyIndex}
use Rattle.rows.specs.declared.plain.Relation.{Relation}
use Rattle.table_store.specs.declared.database.Laid.{Laid}
use Rattle.table_store.specs.declared.files.StoredIndex.{StoredIndex}
use Rattle.table_store.specs.declared.files.StoredTable.{StoredTable}
use Rattle.table_store.specs.Databases.{IsLaid}
use Rattle.table_store.specs.Files.{file_number, index_file, numbers_in, table_blocks}
use Rattle.table_store.proofs.Filed.{index_pages_there, index_there}
use Rattle.query_planner.specs.Stored.{AreOf, Stands}
use Rattle.query_planner.proofs.Usable.{usable}

-- ---- the index of a table

-- the index that has these numbers
pub record IsOver (file heap_pages : ℕ) (o : Option StoredIndex) (index : KeyIndex) : Type 0 where
  pub stored : StoredIndex
  pub has : o ≡ Some stored
  pub numbers : index ≡ index_of file stored.key_type heap_pages stored.entries

pub over_stored : (file heap_pages : ℕ) (o : Option StoredIndex) (index : KeyIndex) → Some index ≡ numbers_in file heap_pages o → IsOver file heap_pages o index
over_stored file heap_pages None index e = absurd cc
over_stored file heap_pages (Some stored) index e = record { stored = stored; has = refl; numbers = cc }

-- and where there are no numbers, there is no index
pub none_stored : (file heap_pages : ℕ) (o : Option StoredIndex) → None ≡ numbers_in file heap_pages o → o ≡ None
none_stored file heap_pages None e = refl
none_stored file heap_pages (Some stored) e = absurd cc

-- what is known of an index that was laid
pub record IsLaidIndex (files : List PageFile) (file heap_pages : ℕ) (o : Option StoredIndex) (index : KeyIndex) : Type 0 where
  pub over : IsOver file heap_pages o index
  pub file_there : HasIndex files index
  pub usable : IsUsable index

pub laid_index : (tables : List StoredTable) (drives : ℕ) (laid : Laid) (i : ℕ) (table : StoredTable) (index : KeyIndex) → IsLaid tables drives laid → slice_get tables i ≡ Some table → slice_get laid.indexes.items i ≡ Some (Some index) →
    IsLaidIndex laid.map.files.items (file_number tables i + 1) (length (table_blocks table)) table.index index
laid_index tables drives laid i table index h at here =
    let over = over_stored (file_number tables i + 1) (length (table_blocks table)) table.index index (h.indexes i table (Some index) at here) in
    let next : file_number tables i + 1 ≡ suc (file_number tables i) = omega arith in
    let there : slice_get laid.map.files.items (file_number tables i + 1) ≡ Some (index_file over.stored) =
    ap (λ (n : ℕ). slice_get laid.map.files.items n) next ∙ (ap (λ (fs : List PageFile). slice_get fs (suc (file_number tables i))) h.of.files ∙ index_there tables i table over.stored at over.has) in
    let pages = index_pages_there tables laid.map.files.items i (file_number tables i + 1) table over.stored h.of.files refl at over.has in
    let same : pages.0 ≡ index_file over.stored = one_at laid.map.files.items (file_number tables i + 1) pages.0 (index_file over.stored) pages.1 there in
    record {
      over = over;
      file_there = rw over.numbers (pages.0, pages.1, ap (λ (f : PageFile). f.kind) same, pages.2);
      usable = rw over.numbers (usable (file_number tables i + 1) over.stored (length (table_blocks table)));
    }

-- ---- how many pages a heap file has

pub within_all : (files : List PageFile) (i : ℕ) (f : PageFile) → slice_get files i ≡ Some f → f.pages ≤ pages_of_all files
within_all [] i f e = absurd cc
within_all (g ∷ fs) zero f e = let h : g ≡ f = cc in omega (arith, ap (λ (u : PageFile). u.pages) h)
within_all (g ∷ fs) (suc i) f e = omega (arith, within_all fs i f e)

-- ---- what is known wherever tables stand

pub known_index : (relations : List Relation) (rows : List ℕ) (laid : Laid) (drives i : ℕ) (o : Option KeyIndex) (index : KeyIndex) → Stands relations rows laid drives → i < length relations →
    o ≡ get_or laid.indexes.items i o → o ≡ Some index → HasIndex laid.map.files.items index × IsUsable index
known_index relations rows laid drives i o index stands lt here is =
    let are = stands.are in
    let table = there stands.tables i (omega (arith, are.count, lt)) in
    let at : slice_get laid.indexes.items i ≡ Some o = some_at laid.indexes.items i o (omega (arith, are.stand.index_count, are.count, lt)) here in
    let l = laid_index stands.tables drives laid i table.0 index are.stand table.1 (at ∙ ap Some is) in
    (l.file_there, l.usable)

-- and it is the one that was laid
pub index_at : (relations : List Relation) (rows : List ℕ) (laid : Laid) (drives i : ℕ) (o : Option KeyIndex) (index : KeyIndex) → Stands relations rows laid drives → i < length relations →
    o ≡ get_or laid.indexes.items i o → o ≡ Some index → slice_get laid.indexes.items i ≡ Some (Some index)
index_at relations rows laid drives i o index stands lt here is =
    let are = stands.are in
    some_at laid.indexes.items i o (omega (arith, are.stand.index_count, are.count, lt)) here ∙ ap Some is

pub option_at : (relations : List Relation) (rows : List ℕ) (laid : Laid) (drives i : ℕ) (o : Option KeyIndex) → Stands relations rows laid drives → i < length relations → o ≡ get_or laid.indexes.items i o → slice_get laid.indexes.items i ≡ Some o
option_at relations rows laid drives i o stands lt here =
    let are = stands.are in
    some_at laid.indexes.items i o (omega (arith, are.stand.index_count, are.count, lt)) here

-- the index of one of these tables
pub told_index : (relations : List Relation) (rows : List ℕ) (laid : Laid) (i : ℕ) (tables : List StoredTable) (table : StoredTable) (o : Option KeyIndex) → AreOf relations rows laid laid.map.drives tables → slice_get tables i ≡ Some table →
    o ≡ get_or laid.indexes.items i o → o ≡ numbers_in (file_number tables i + 1) (length (table_blocks table)) table.index
told_index relations rows laid i tables table o are at here =
    are.stand.indexes i table o at (some_at laid.indexes.items i o (omega (arith, are.stand.index_count, get_below tables i table at)) here)
