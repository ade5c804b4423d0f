-- Drives that tell the image of tables tell their indexes.
use Rattle.std.proofs.Common.{◌≡◌, ℕ, zero, suc, ◌+◌, ◌<◌, Option, Some, None, List, [], ◌∷◌, length, map, refl, sym, ap, subst, ◌∙◌, arith}
use Rattle.std.specs.Prelude.{slice_get, slice_index_or, is_some, IsTrue, IfSome, option_map}
use Rattle.std.proofs.lemmas.Option.{get_or_from_slice_get}
use Rattle.xp_outside.specs.declared.drive.Drive.{Ghosts}
use Rattle.heap_page.specs.declared.map.FileMap.{FileMap}
use Rattle.heap_page.specs.Maps.{address_of, drive_of}
use Rattle.buffer_pool.specs.Images.{all_told, image_on, page_at}
use Rattle.heap_page.proofs.Found.{there}
use Rattle.key_index.specs.Files.{index_pages}
use Rattle.rows.specs.declared.plain.Relation.{Relation}
use Rattle.table_store.specs.declared.database.Laid.{Laid}
use Rattle.table_store.specs.declared.files.StoredIndex.{StoredIndex}
use Rattle.table_store.specs.declared.files.StoredTable.{StoredTable}
use Rattle.table_store.specs.Files.{IsStorable, IsStorableIndex, file_number, heap_file, table_blocks}
use Rattle.table_store.specs.Images.{HoldImage}
use Rattle.table_store.specs.Readings.{AllTell}
use Rattle.table_store.proofs.Filed.{all_at, file_there, number_small}
use Rattle.query_planner.specs.Stored.{AreOf}
use Rattle.query_planner.specs.Told.{AreTold}
use Rattle.query_planner.proofs.Standing.{within_all}

module _ {D : Type 0} (g : Ghosts D) where
  -- the pages that the drives tell, drive by drive
  record AreAll (drives : List D) : Type 0 where
    lists : List (List (List ℕ))
    told : all_told (map g.pages drives) ≡ Some lists
    each : (d : ℕ) (drive : D) → slice_get drives d ≡ Some drive → (pages : List (List ℕ)) × (g.pages drive ≡ Some pages) × (slice_get lists d ≡ Some pages)

  all_there : (drives : List D) → AllTell g drives → AreAll drives
  all_there [] h = record { lists = []; told = refl; each = λ d drive e. absurd cc }
  all_there (x ∷ xs) h = by (g.pages x) refl (h 0 x refl) (all_there xs (λ d. h (suc d))) where
    by : (o : Option (List (List ℕ))) → g.pages x ≡ o → IsTrue (is_some o) → AreAll xs → AreAll (x ∷ xs)
    by None e tells rest = absurd cc
    by (Some pages) e tells rest = record {
      lists = pages ∷ rest.lists;
      told = ap (λ (o : Option (List (List ℕ))). all_told (o ∷ map g.pages xs)) e ∙ ap (λ (o : Option (List (List (List ℕ)))). option_map (λ others. pages ∷ others) o) rest.told;
      each = at;
    } where
      at : (d : ℕ) (drive : D) → slice_get (x ∷ xs) d ≡ Some drive → (told : List (List ℕ)) × (g.pages drive ≡ Some told) × (slice_get (pages ∷ rest.lists) d ≡ Some told)
      at zero drive k = let same : x ≡ drive = cc in (pages, ap g.pages (sym same) ∙ e, refl)
      at (suc d) drive k = rest.each d drive k

  module _ (map_of : FileMap) (tables : List StoredTable) (drives : List D) (all : AreAll drives) (some : 0 < map_of.drives) (count : length drives ≡ map_of.drives) (hold : HoldImage g map_of tables drives) where
    page_there : (i : ℕ) (table : StoredTable) (index : StoredIndex) (n : ℕ) (bytes : List ℕ) → slice_get tables i ≡ Some table → table.index ≡ Some index → slice_get (index_pages (file_number tables i + 1) index.entries) n ≡ Some bytes →
        page_at map_of all.lists (file_number tables i + 1) n ≡ bytes
    page_there i table index n bytes at has here =
        let file = file_number tables i + 1 in
        let drive = there drives (drive_of map_of n) (omega arith) in
        let told = all.each (drive_of map_of n) drive.0 drive.1 in
        let stands = (hold (drive_of map_of n) drive.0 told.0 drive.1 told.1).indexes i table index n bytes at has here refl in
        let list : slice_index_or all.lists (drive_of map_of n) [] ≡ told.0 = get_or_from_slice_get all.lists (drive_of map_of n) told.0 [] told.2 in
        ap (λ (pages : List (List ℕ)). slice_index_or pages (address_of map_of file n) []) list ∙ get_or_from_slice_get told.0 (address_of map_of file n) bytes [] stands

  pub tells : (relations : List Relation) (rows : List ℕ) (laid : Laid) (tables : List StoredTable) (drives : List D) → AreOf relations rows laid (length drives) tables → HoldImage g laid.map tables drives → AllTell g drives →
      AreTold relations rows laid tables (image_on g laid.map drives)
  tells relations rows laid tables drives are hold tell =
      let all = all_there drives tell in
      let count : length drives ≡ laid.map.drives = sym are.stand.of.drives_are in
      record {
        are = subst (λ (n : ℕ). AreOf relations rows laid n tables) count are;
        pages = page_at laid.map all.lists;
        tells = ap (λ (o : Option (List (List (List ℕ)))). option_map (page_at laid.map) o) all.told;
        indexes = λ i table index at has.
            let file = file_there tables i table at in
            let mine : slice_get laid.map.files.items (file_number tables i) ≡ Some (heap_file table) = rw are.stand.of.files file in
            let storable : IsStorable table = all_at IsStorable tables i table are.storable at in
            let legal : IsStorableIndex (length (table_blocks table)) index = subst (λ (o : Option StoredIndex). IfSome o (IsStorableIndex (length (table_blocks table)))) has storable.index in
            record {
              small = (omega (arith, number_small tables i, are.few), omega (arith, within_all laid.map.files.items (file_number tables i) (heap_file table) mine, are.stand.of.is_map.small));
              legal = legal;
              numbers = refl;
              told = λ n bytes here. page_there laid.map tables drives all are.stand.of.is_map.some count hold i table index n bytes at has here;
            };
      }
