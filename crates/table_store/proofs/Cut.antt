-- The pages and the files of tables.
use Rattle.std.proofs.Common.{◌≡◌, ℕ, suc, ◌+◌, ◌*◌, ◌<◌, ◌≤◌, Option, Some, None, List, [], ◌∷◌, ◌++◌, length, ap, arith, IfSome}
use Rattle.std.specs.List.{All, AllByRecursion}
use Rattle.heap_page.specs.declared.map.FileMap.{FileMap}
use Rattle.heap_page.specs.declared.map.PageFile.{PageFile}
use Rattle.heap_page.specs.Blocks.{item_weight, blocks_of, ArePages, FitsAlone}
use Rattle.heap_page.specs.Maps.{pages_of_all, IsMap}
use Rattle.heap_page.proofs.Cut.{are_blocks, only_blocks, length-laid}
use Rattle.key_index.specs.Entries.{AreEntries, items_of}
use Rattle.key_index.specs.Levels.{AreLevels, levels_of}
use Rattle.rows.specs.declared.field.ColType.{ColType}
use Rattle.rows.specs.declared.plain.KeyEntry.{KeyEntry}
use Rattle.table_store.specs.declared.files.StoredIndex.{StoredIndex}
use Rattle.table_store.specs.declared.files.StoredTable.{StoredTable}
use Rattle.table_store.specs.Files.{IsStorable, IsStorableIndex, table_blocks, index_files, files_of_table, files_of}
use Rattle.table_store.proofs.IndexPages.{few_index_pages}

light : (items : List (List ℕ)) → All FitsAlone items → AllByRecursion (λ item. item_weight item ≤ 8172) items
light [] each = tt
light (x ∷ xs) each = (omega (arith, each 0 [] (omega arith)), light xs (λ k d lt. each (suc k) d (omega arith)))

pub are_pages : (items : List (List ℕ)) → All FitsAlone items → ArePages items (blocks_of item_weight 8172 items)
are_pages items each = are_blocks item_weight 8172 items (light items each)

pub only_pages : (items : List (List ℕ)) (blocks : List (List (List ℕ))) → All FitsAlone items → ArePages items blocks → blocks ≡ blocks_of item_weight 8172 items
only_pages items blocks each h = only_blocks item_weight 8172 items blocks (blocks_of item_weight 8172 items) h (are_pages items each)

few_blocks : (items : List (List ℕ)) → length (blocks_of item_weight 8172 items) ≤ length items
few_blocks [] = omega arith
few_blocks (x ∷ xs) = omega (arith, length-laid item_weight 8172 (x ∷ []) xs)

few_pages : (table : StoredTable) → IsStorable table → length (table_blocks table) ≤ 1000000
few_pages table h = omega (arith, few_blocks table.items, h.few)

pages_append : (fs gs : List PageFile) → pages_of_all (fs ++ gs) ≡ pages_of_all fs + pages_of_all gs
pages_append [] gs = omega arith
pages_append (f ∷ fs) gs = omega (arith, pages_append fs gs)

module _ (made : (t : ColType) (heap : ℕ) (entries : List KeyEntry) → AreEntries t heap entries → AreLevels 0 0 (items_of entries) (levels_of entries)) where
  pages_of_index : (heap : ℕ) (index : Option StoredIndex) → IfSome index (IsStorableIndex heap) → pages_of_all (index_files index) ≤ 2000000
  pages_of_index heap None h = omega arith
  pages_of_index heap (Some i) h = omega (arith, few_index_pages i.key_type heap 0 i.entries h (made i.key_type heap i.entries h))

  all_pages : (tables : List StoredTable) → All IsStorable tables → pages_of_all (files_of tables) ≤ length tables * 3000000
  all_pages [] h = omega arith
  all_pages (t ∷ ts) h =
      let is = h 0 t (omega arith) in
      let one = few_pages t is in
      let rest = all_pages ts (λ k d lt. h (suc k) d (omega arith)) in
      omega (arith, one, rest, pages_of_index (length (table_blocks t)) t.index is.index, pages_append (files_of_table t) (files_of ts))

  pub is_map : (tables : List StoredTable) (map_of : FileMap) → 0 < map_of.drives → length tables ≤ 16 → All IsStorable tables → map_of.files.items ≡ files_of tables → IsMap map_of
  is_map tables map_of some few each e = record { some = some; small = omega (arith, ap pages_of_all e, all_pages tables each, few) }
