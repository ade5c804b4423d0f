-- Databases that are laid on drives.
use Rattle.std.proofs.Common.{◌≡◌, ℕ, zero, suc, ◌+◌, ◌<◌, ◌≤◌, List, [], ◌∷◌, ◌++◌, length, Option, Some, None, Result, Ok, Err, refl, sym, ap, subst, ◌∙◌, arith, inl, inr, IfOk, IfErr, IfSome}
use Rattle.std.specs.Prelude.{slice_get, is_some, replicate, All}
use Rattle.std.proofs.lemmas.List.{length-append, length-map, length-replicate, get_or-replicate}
use Rattle.std.proofs.lemmas.List.Elements.{All-map, All-push}
use Rattle.std.proofs.lemmas.Option.{slice_get-get_or}
use Rattle.xp_outside.specs.Drives.{IsFresh, IsZero}
use Rattle.xp_outside.specs.declared.drive.Drive.{Ghosts}
use Rattle.heap_page.specs.declared.errors.StoreErr.{StoreErr}
use Rattle.heap_page.specs.declared.errors.StoreErr.TheVariants.{DriveFault, DriveFull, NoMemory}
use Rattle.heap_page.specs.declared.map.FileMap.{FileMap}
use Rattle.heap_page.specs.Blocks.{ArePages, FitsAlone, blocks_of, item_weight}
use Rattle.heap_page.specs.Maps.{address_of, drive_of, HasPage, IsMap}
use Rattle.heap_page.specs.Pages.{page_of}
use Rattle.heap_page.specs.Stores.{AreRead, AreWritten, HaveRoom, IsFull, KeepsBut, StoreCause, TellsAt}
use Rattle.heap_page.proofs.Drives.{room_kept}
use Rattle.heap_page.proofs.Found.{get_below, one_at, there}
use Rattle.rows.specs.declared.plain.Column.{Column}
use Rattle.rows.specs.declared.plain.KeyIndex.{KeyIndex}
use Rattle.rows.specs.declared.plain.Relation.{Relation}
use Rattle.rows.specs.declared.value.Value.{Value}
use Rattle.rows.specs.RowBytes.{IsRowOf, row_bytes}
use Rattle.rel_meaning.specs.declared.query.Table.{Table}
use Rattle.key_index.specs.Files.{index_pages}
use Rattle.table_store.specs.declared.files.StoredTable.{StoredTable}
use Rattle.table_store.specs.declared.database.Laid.{Laid}
use Rattle.table_store.specs.Databases.{AllFresh, AreKept, AreStored, IsKept, IsLaid, IsLaidOut, IsMapOf, IsStored, IsTableOf, LayCause, LayoutCause, MayStore}
use Rattle.table_store.specs.Entries.{type_at}
use Rattle.table_store.specs.Files.{IsStorable, IsStorableIndex, encodings, file_number, files_of, index_numbers}
use Rattle.table_store.specs.Images.{HoldImage, HoldTables, IsTablePlace}
use Rattle.table_store.specs.Readings.{AllTell, TellRows}
use Rattle.heap_page.proofs.Striping.{address_below}
use Rattle.table_store.proofs.Filed.{all_at, index_pages_there, pages_there}
use Rattle.table_store.proofs.Pages.{get_last}

pub storable : (relation : Relation) (table : Table) (items : List (List ℕ)) → IsTableOf relation table → items ≡ encodings table.columns table.rows → (length items ≤ 1000000) × All FitsAlone items
storable relation table items h e =
    let count : length items ≡ length table.rows = ap length e ∙ length-map table.rows (row_bytes table.columns) in
    (omega (arith, h.short.0, count), subst (All FitsAlone) (sym e) (All-map FitsAlone (row_bytes table.columns) table.rows h.short.1))

pub storable_table : (items : List (List ℕ)) (table : StoredTable) → table.items ≡ items → (length items ≤ 1000000) × All FitsAlone items → IfSome table.index (IsStorableIndex (length (blocks_of item_weight 8172 items))) → IsStorable table
storable_table items table e h k = record {
  few = omega (arith, ap length e, h.0);
  fit = subst (λ (xs : List (List ℕ)). All FitsAlone xs) (sym e) h.1;
  index = subst (λ (xs : List (List ℕ)). IfSome table.index (IsStorableIndex (length (blocks_of item_weight 8172 xs)))) (sym e) k;
}

-- the type of a column that is there
pub type_there : (columns : List Column) (place : ℕ) (column : Column) → slice_get columns place ≡ Some column → column.col_type ≡ type_at columns place
type_there [] place column at = absurd cc
type_there (c ∷ cs) zero column at = let e : c ≡ column = cc in ap (λ (x : Column). x.col_type) (sym e)
type_there (c ∷ cs) (suc place) column at = type_there cs place column at

-- ---- the tables one after the other

-- the tables so far
pub record Encoded (relations : List Relation) (db : List Table) (count : ℕ) (tables : List StoredTable) : Type 0 where
  pub done : length tables ≡ count
  pub each : (i : ℕ) (relation : Relation) (table : Table) (stored : StoredTable) → slice_get relations i ≡ Some relation → slice_get db i ≡ Some table → slice_get tables i ≡ Some stored → IsStored relation table stored
  pub storable : All IsStorable tables

pub none_encoded : (relations : List Relation) (db : List Table) → Encoded relations db 0 []
none_encoded relations db = record { done = refl; each = λ i r t s at_r at_t at_s. absurd cc; storable = λ k d lt. absurd (omega (arith, lt)) }

pub one_encoded : (relations : List Relation) (db : List Table) (count : ℕ) (tables : List StoredTable) (relation : Relation) (table : Table) (stored : StoredTable) → Encoded relations db count tables →
    slice_get relations count ≡ Some relation → slice_get db count ≡ Some table → IsStored relation table stored → IsStorable stored → Encoded relations db (count + 1) (tables ++ stored ∷ [])
one_encoded relations db count tables relation table stored h here row is fits = record {
  done = length-append tables (stored ∷ []) ∙ ap (λ (n : ℕ). n + 1) h.done;
  each = λ i r t s at_r at_t at_s. elim (get_last tables stored i s at_s) [
    | inl k ↦ h.each i r t s at_r at_t k
    | inr k ↦ (
        let at : i ≡ count = k.0 ∙ h.done in
        let same : relation ≡ r = one_at relations i relation r (rw at here) at_r in
        let other : table ≡ t = one_at db i table t (rw at row) at_t in
        rw (← same, ← other, ← k.1) is)
  ];
  storable = All-push IsStorable tables stored h.storable fits;
}

-- the numbers of the heap files so far
pub record Numbered (tables : List StoredTable) (count : ℕ) (heaps : List ℕ) : Type 0 where
  pub done : length heaps ≡ count
  pub each : (i heap : ℕ) → slice_get heaps i ≡ Some heap → heap ≡ file_number tables i
  pub within : All (λ heap. heap < length (files_of tables)) heaps

pub none_numbered : (tables : List StoredTable) → Numbered tables 0 []
none_numbered tables = record { done = refl; each = λ i heap e. absurd cc; within = λ k d lt. absurd (omega (arith, lt)) }

pub one_numbered : (tables : List StoredTable) (count : ℕ) (heaps : List ℕ) (heap : ℕ) → Numbered tables count heaps → heap ≡ file_number tables count → heap < length (files_of tables) → Numbered tables (count + 1) (heaps ++ heap ∷ [])
one_numbered tables count heaps heap h is below = record {
  done = length-append heaps (heap ∷ []) ∙ ap (λ (n : ℕ). n + 1) h.done;
  each = λ i other e. elim (get_last heaps heap i other e) [
    | inl k ↦ h.each i other k
    | inr k ↦ sym k.1 ∙ (is ∙ ap (file_number tables) (sym (k.0 ∙ h.done)))
  ];
  within = All-push (λ other. other < length (files_of tables)) heaps heap h.within below;
}

-- the numbers of the indexes so far
pub record Planned (tables : List StoredTable) (count : ℕ) (indexes : List (Option KeyIndex)) : Type 0 where
  pub done : length indexes ≡ count
  pub each : (i : ℕ) (table : StoredTable) (index : Option KeyIndex) → slice_get tables i ≡ Some table → slice_get indexes i ≡ Some index → index ≡ index_numbers tables i table

pub none_planned : (tables : List StoredTable) → Planned tables 0 []
none_planned tables = record { done = refl; each = λ i table index at e. absurd cc }

pub one_planned : (tables : List StoredTable) (count : ℕ) (indexes : List (Option KeyIndex)) (table : StoredTable) (index : Option KeyIndex) → Planned tables count indexes → slice_get tables count ≡ Some table → index ≡ index_numbers tables count table →
    Planned tables (count + 1) (indexes ++ index ∷ [])
one_planned tables count indexes table index h at is = record {
  done = length-append indexes (index ∷ []) ∙ ap (λ (n : ℕ). n + 1) h.done;
  each = λ i other found at_other e. elim (get_last indexes index i found e) [
    | inl k ↦ h.each i other found at_other k
    | inr k ↦ (
        let here : i ≡ count = k.0 ∙ h.done in
        let same : table ≡ other = one_at tables i table other (rw here at) at_other in
        sym k.1 ∙ (is ∙ (ap (λ (n : ℕ). index_numbers tables n table) (sym here) ∙ ap (index_numbers tables i) same)))
  ];
}

-- ---- what stays of drives

module _ {D : Type 0} (g : Ghosts D) where
  same_telling : (P : ℕ → Type 0) (a b : Option (List (List ℕ))) → KeepsBut P a b → is_some b ≡ is_some a
  same_telling P None None k = refl
  same_telling P None (Some new) k = elim k [ ]
  same_telling P (Some old) None k = elim k [ ]
  same_telling P (Some old) (Some new) k = refl

  pub kept_writing : (P : ℕ → ℕ → Type 0) (olds news : List D) → AreWritten g P olds news → AreKept g olds news
  kept_writing P olds news h = record {
    len = h.len;
    each = λ d old new at_old at_new.
        let one = h.each d old new at_old at_new in
        record { size = one.size; count = one.count; tells = same_telling (P d) (g.pages old) (g.pages new) one.others };
  }

  pub kept_reading : (olds news : List D) → AreRead g olds news → AreKept g olds news
  kept_reading olds news h = record {
    len = h.len;
    each = λ d old new at_old at_new.
        let one = h.each d old new at_old at_new in
        record { size = one.size; count = one.count; tells = ap is_some one.told };
  }

  pub kept_none : (us : List D) → AreKept g us us
  kept_none us = record {
    len = refl;
    each = λ d old new at_old at_new.
        let e : old ≡ new = one_at us d old new at_old at_new in
        subst (λ (x : D). IsKept g old x) e (record { size = refl; count = omega arith; tells = refl });
  }

  pub kept_trans : (us bs cs : List D) → AreKept g us bs → AreKept g bs cs → AreKept g us cs
  kept_trans us bs cs h k = record {
    len = k.len ∙ h.len;
    each = λ d a c at_a at_c.
        let b = there bs d (omega (arith, get_below us d a at_a, h.len)) in
        let one = h.each d a b.0 at_a b.1 in
        let two = k.each d b.0 c b.1 at_c in
        record { size = two.size ∙ one.size; count = omega (arith, one.count, two.count); tells = two.tells ∙ one.tells };
  }

-- ---- what new drives hold

zero_at : (n i : ℕ) → i < n → slice_get (replicate n (replicate {A = ℕ} 8192 0)) i ≡ Some (replicate {A = ℕ} 8192 0)
zero_at n i lt =
    let zeros : List ℕ = replicate 8192 0 in
    slice_get-get_or (replicate n zeros) i [] (omega (arith, lt, length-replicate n zeros)) ∙ ap (λ (page : List ℕ). Some page) (get_or-replicate n i zeros [] lt)

abbrev Part : (ℕ → Type 0) → ℕ → List (List ℕ) → Type 0
Part P size pages = (length pages ≡ size) × ((address : ℕ) → address < size → (P address → ⊥) → slice_get pages address ≡ Some (replicate 8192 0))

part : (P : ℕ → Type 0) (old new : Option (List (List ℕ))) (size : ℕ) (pages : List (List ℕ)) → KeepsBut P old new → IsZero old size → new ≡ Some pages → Part P size pages
part P None None size pages k z e = absurd cc
part P None (Some new) size pages k z e = elim k [ ]
part P (Some old) None size pages k z e = elim k [ ]
part P (Some old) (Some new) size pages k z e =
    let zeros : List ℕ = replicate 8192 0 in
    let same : new ≡ pages = cc in
    subst (Part P size) same (k.0 ∙ (ap length z ∙ length-replicate size zeros), λ address below out. k.1 address out ∙ (ap (λ (ps : List (List ℕ)). slice_get ps address) z ∙ zero_at size address below))

module _ {D : Type 0} (g : Ghosts D) (map_of : FileMap) (tables : List StoredTable) (is_map : IsMap map_of) (files : map_of.files.items ≡ files_of tables) (each : All IsStorable tables) where
  -- a page of a table is in its heap file
  in_file : (number : ℕ) (table : StoredTable) (blocks : List (List (List ℕ))) (page : ℕ) (items : List (List ℕ)) → slice_get tables number ≡ Some table → ArePages table.items blocks → slice_get blocks page ≡ Some items →
      HasPage map_of.files.items (file_number tables number) page
  in_file number table blocks page items at cut here =
      let file = pages_there tables map_of.files.items number (file_number tables number) table blocks files refl each at cut in
      (file.0, file.1, omega (arith, file.2, get_below blocks page items here))

  told_page : (pages : List (List ℕ)) (address : ℕ) (bytes : List ℕ) → address < length pages → TellsAt (Some pages) address bytes → slice_get pages address ≡ Some bytes
  told_page pages address bytes below tells = let p = there pages address below in p.1 ∙ ap (λ (page : List ℕ). Some page) (tells p.0 p.1)

  pub hold_image : (olds news : List D) → AllFresh g olds → AreWritten g (IsTablePlace map_of tables) olds news → HoldTables g map_of tables news → HaveRoom g map_of news → HoldImage g map_of tables news
  hold_image olds news fresh wrote hold room d drive pages at told =
      let old = there olds d (omega (arith, get_below news d drive at, wrote.len)) in
      let one = wrote.each d old.0 drive old.1 at in
      let new = all_at (λ (x : D). IsFresh (g.pages x) (g.faults x) (g.size x)) olds d old.0 fresh old.1 in
      let is = part (IsTablePlace map_of tables d) (g.pages old.0) (g.pages drive) (g.size old.0) pages one.others new.zero told in
      record {
        whole = is.0 ∙ sym one.size;
        stored = λ number table blocks page items at_table cut here on.
            let file = file_number tables number in
            let within = address_below map_of file page is_map (in_file number table blocks page items at_table cut here) in
            let fits = room d drive at in
            let stands = (hold number table at_table).heap blocks cut page items drive here (rw on at) in
            told_page pages (address_of map_of file page) (page_of file page items) (omega (arith, within, fits, on, is.0, one.size, ap (λ (e : ℕ). Rattle.heap_page.specs.Maps.needs_of map_of e) on))
            (subst (λ (ps : Option (List (List ℕ))). TellsAt ps (address_of map_of file page) (page_of file page items)) told stands);
        indexes = λ number table index page bytes at_table has here on.
            let file = file_number tables number + 1 in
            let own = index_pages_there tables map_of.files.items number file table index files refl at_table has in
            let within = address_below map_of file page is_map (own.0, own.1, omega (arith, own.2, get_below (index_pages file index.entries) page bytes here)) in
            let fits = room d drive at in
            let stands = (hold number table at_table).index index has page bytes drive here (rw on at) in
            told_page pages (address_of map_of file page) bytes (omega (arith, within, fits, on, is.0, one.size, ap (λ (e : ℕ). Rattle.heap_page.specs.Maps.needs_of map_of e) on))
            (subst (λ (ps : Option (List (List ℕ))). TellsAt ps (address_of map_of file page) bytes) told stands);
        others = λ address below out. is.1 address (omega (arith, below, one.size)) out;
      }

module _ {D : Type 0} (g : Ghosts D) where
  pub lay_cause : (tables : List StoredTable) (map_of : FileMap) (P : ℕ → ℕ → Type 0) (olds news : List D) (e : StoreErr) → IsMapOf tables (length olds) map_of → AreWritten g P olds news → StoreCause g map_of olds news e → LayCause g tables olds news e
  lay_cause tables map_of P olds news (DriveFault d) of wrote h = (map_of, of, room_kept g map_of P olds news wrote h.0, h.1)
  lay_cause tables map_of P olds news (DriveFull d needs capacity) of wrote h = (map_of, of, subst (IsFull g map_of d needs capacity) (sym h.1) h.0, h.1)
  lay_cause tables map_of P olds news NoMemory of wrote h = tt

  -- ---- a database

  pub layout_cause : (relations : List Relation) (db : List Table) (tables : List StoredTable) (olds news : List D) (e : StoreErr) → AreStored relations db tables → LayCause g tables olds news e → LayoutCause g relations db olds news e
  layout_cause relations db tables olds news (DriveFault d) are h = (tables, are, h)
  layout_cause relations db tables olds news (DriveFull d needs capacity) are h = (tables, are, h)
  layout_cause relations db tables olds news NoMemory are h = tt

  pub layout_err : {X : Type 0} (relations : List Relation) (db : List Table) (tables : List StoredTable) (olds news : List D) (r : Result X StoreErr) → AreStored relations db tables → IfErr r (LayCause g tables olds news) → IfErr r (LayoutCause g relations db olds news)
  layout_err relations db tables olds news (Ok x) are h = tt
  layout_err relations db tables olds news (Err e) are h = layout_cause relations db tables olds news e are h

  abbrev Tells : List StoredTable → List D → List D → Result Laid StoreErr → Type 0
  Tells tables olds news r = (number : ℕ) (table : StoredTable) (columns : List Column) (rows : List (List Value)) → slice_get tables number ≡ Some table → table.items ≡ encodings columns rows → length columns ≤ 32 → All (IsRowOf columns) rows →
      AllTell g olds → IfOk r (λ laid. TellRows g laid.map (file_number tables number) columns rows news)

  pub laid_out : (relations : List Relation) (db : List Table) (tables : List StoredTable) (olds news : List D) (r : Result Laid StoreErr) → MayStore relations db → AreStored relations db tables → All IsStorable tables → IfOk r (IsLaid tables (length olds)) →
      IfOk r (λ laid. HaveRoom g laid.map news) → (AllFresh g olds → IfOk r (λ laid. HoldImage g laid.map tables news)) → Tells tables olds news r → IfOk r (IsLaidOut g relations db olds news)
  laid_out relations db tables olds news (Err e) may are fit laid room image tells = tt
  laid_out relations db tables olds news (Ok l) may are fit laid room image tells = record {
    tables = tables;
    stored = are;
    storable = fit;
    are = laid;
    room = room;
    image = image;
    tell = λ all i table heap at_table at_heap.
        let below : i < length relations = omega (arith, get_below db i table at_table, may.count) in
        let relation = there relations i below in
        let stored = there tables i (omega (arith, below, are.count)) in
        let is = are.each i relation.0 table stored.0 relation.1 at_table stored.1 in
        let fits = may.each i relation.0 table relation.1 at_table in
        rw (laid.heaps i heap at_heap) (tells i stored.0 table.columns table.rows stored.1 is.items fits.few fits.rows all);
  }
