-- Tables that are written one after the other.
use Rattle.std.proofs.Common.{◌≡◌, ℕ, ◌+◌, ◌<◌, ◌≤◌, List, [], ◌∷◌, length, Some, None, Result, Ok, Err, IfErr, OnOk, refl, sym, ap, subst, ◌∙◌, arith, inl, inr}
use Rattle.std.specs.Prelude.{slice_get, ◌⊎◌}
use Rattle.std.specs.List.{All}
use Rattle.std.proofs.lemmas.Bool.{cases_lt}
use Rattle.xp_outside.specs.declared.drive.Drive.{Ghosts}
use Rattle.heap_page.specs.declared.errors.StoreErr.{StoreErr}
use Rattle.heap_page.specs.declared.errors.StoreErr.TheVariants.{DriveFault, DriveFull, NoMemory}
use Rattle.heap_page.specs.declared.map.FileMap.{FileMap}
use Rattle.heap_page.specs.Blocks.{ArePages}
use Rattle.heap_page.specs.Maps.{address_of, drive_of, shares, HasPage, HasPages, IsMap, IsPlace}
use Rattle.heap_page.specs.Pages.{page_of}
use Rattle.heap_page.specs.Stores.{AreQuiet, AreWritten, IsFull, HaveRoom, Stand, StoreCause, TellsAt}
use Rattle.heap_page.proofs.Drives.{cause_later, fault_before, not_full, quiet_none, quiet_trans, room_before, room_kept, tells_kept, wrote_none, wrote_trans}
use Rattle.heap_page.proofs.Found.{get_below, one_at, there}
use Rattle.key_index.specs.Files.{index_pages}
use Rattle.key_index.specs.Written.{AllStand}
use Rattle.table_store.specs.declared.files.StoredIndex.{StoredIndex}
use Rattle.table_store.specs.declared.files.StoredTable.{StoredTable}
use Rattle.table_store.specs.Files.{IsStorable, file_number, files_of, files_of_table}
use Rattle.table_store.specs.Images.{HoldTable, HoldTables, IsPlaceOf, IsTablePlace}
use Rattle.table_store.proofs.Filed.{file_below, index_pages_there, next_number, pages_there, some_files, two_files, up_to}

pub on_ok : {X E : Type 0} (r : Result X E) (A B : Type 0) → (A → B) → OnOk r A → OnOk r B
on_ok (Ok x) A B f h = f h
on_ok (Err e) A B f h = tt

module _ {D : Type 0} (g : Ghosts D) where
  abbrev Apart : Type 0
  Apart = (map_of : FileMap) (file page other number : ℕ) → IsMap map_of → HasPage map_of.files.items file page → HasPage map_of.files.items other number → drive_of map_of page ≡ drive_of map_of number → address_of map_of file page ≡ address_of map_of other number → file ≡ other

  -- a page stays where no page of its file is written
  page_stays : (map_of : FileMap) → IsMap map_of → Apart → (P : ℕ → ℕ → Type 0) (bs cs : List D) (one page : ℕ) (bytes : List ℕ) (c : D) → HasPage map_of.files.items one page →
      ((d x : ℕ) → P d x → (other : ℕ) × (other ≡ one → ⊥) × IsPlace map_of other d x) → AreWritten g P bs cs → slice_get cs (drive_of map_of page) ≡ Some c →
      ((b : D) → slice_get bs (drive_of map_of page) ≡ Some b → TellsAt (g.pages b) (address_of map_of one page) bytes) → TellsAt (g.pages c) (address_of map_of one page) bytes
  page_stays map_of m apart P bs cs one page bytes c mine others w at_c stand =
      let d = drive_of map_of page in
      let b = there bs d (omega (arith, get_below cs d c at_c, w.len)) in
      tells_kept (P d) (g.pages b.0) (g.pages c) (address_of map_of one page) bytes (w.each d b.0 c b.1 at_c).others
      (λ k. let o = others d (address_of map_of one page) k in o.1 (sym (apart map_of one page o.0 o.2.0 m mine o.2.1 (sym o.2.2) (sym o.2.3))))
      (stand b.0 b.1)

  -- ---- the files of one table

  module _ (map_of : FileMap) (file : ℕ) (table : StoredTable) where
    heap_place : (d x : ℕ) → IsPlace map_of file d x → IsPlaceOf map_of file table d x
    heap_place d x k = let e : file ≡ file + 0 = omega arith in (0, some_files table, subst (λ (f : ℕ). IsPlace map_of f d x) e k)

    pub heap_written : (us bs : List D) → AreWritten g (IsPlace map_of file) us bs → AreWritten g (IsPlaceOf map_of file table) us bs
    heap_written us bs w = wrote_trans g (IsPlaceOf map_of file table) (IsPlace map_of file) (IsPlaceOf map_of file table) us us bs (λ d x k. k) heap_place (wrote_none g (IsPlaceOf map_of file table) us) w

    pub both_written : (us bs cs : List D) (index : StoredIndex) → table.index ≡ Some index → AreWritten g (IsPlace map_of file) us bs → AreWritten g (IsPlace map_of (file + 1)) bs cs → AreWritten g (IsPlaceOf map_of file table) us cs
    both_written us bs cs index has w v =
        wrote_trans g (IsPlace map_of file) (IsPlace map_of (file + 1)) (IsPlaceOf map_of file table) us bs cs heap_place (λ d x k. (1, omega (arith, two_files table index has), k)) w v

    pub hold_heap : (bs : List D) → table.index ≡ None → ((blocks : List (List (List ℕ))) → ArePages table.items blocks → Stand g map_of file blocks bs) → HoldTable g map_of file table bs
    hold_heap bs none stand = record { heap = stand; index = λ index has. absurd (let k : None ≡ Some index = sym none ∙ has in cc) }

    pub hold_both : (bs cs : List D) (index : StoredIndex) → IsMap map_of → Apart → table.index ≡ Some index →
        ((blocks : List (List (List ℕ))) → ArePages table.items blocks → HasPages map_of.files.items file (length blocks)) → AreWritten g (IsPlace map_of (file + 1)) bs cs →
        ((blocks : List (List (List ℕ))) → ArePages table.items blocks → Stand g map_of file blocks bs) → AllStand g map_of (file + 1) (index_pages (file + 1) index.entries) cs → HoldTable g map_of file table cs
    hold_both bs cs index m apart has pages w stand now = record {
      heap = λ blocks cut page items c at_page at_c.
          let own = pages blocks cut in
          page_stays map_of m apart (IsPlace map_of (file + 1)) bs cs file page (page_of file page items) c (own.0, own.1, omega (arith, own.2, get_below blocks page items at_page))
          (λ d x k. (file + 1, λ e. absurd (omega (arith, e)), k)) w at_c (λ b at_b. stand blocks cut page items b at_page at_b);
      index = λ other is.
          let same : index ≡ other = (let k : Some index ≡ Some other = sym has ∙ is in cc) in
          subst (λ (i : StoredIndex). AllStand g map_of (file + 1) (index_pages (file + 1) i.entries) cs) same now;
    }

  pub result_cause : {X : Type 0} (map_of : FileMap) (P : ℕ → ℕ → Type 0) (us bs cs : List D) (r : Result X StoreErr) → AreWritten g P us bs → HaveRoom g map_of us → IfErr r (StoreCause g map_of bs cs) → IfErr r (StoreCause g map_of us cs)
  result_cause map_of P us bs cs (Ok x) w room h = tt
  result_cause map_of P us bs cs (Err e) w room h = cause_later g map_of P us bs cs e w h room

  -- no table is written yet, or each drive has room
  abbrev Begun : FileMap → List D → ℕ → List D → Type 0
  Begun map_of olds done news = ((done ≡ 0) × (news ≡ olds)) ⊎ HaveRoom g map_of olds

  pub record Storing (map_of : FileMap) (tables : List StoredTable) (olds : List D) (done file : ℕ) (news : List D) : Type 0 where
    pub file_is : file ≡ file_number tables done
    pub wrote : AreWritten g (IsTablePlace map_of tables) olds news
    pub quiet : AreQuiet g None olds news
    pub stand : (number : ℕ) (table : StoredTable) → number < done → slice_get tables number ≡ Some table → HoldTable g map_of (file_number tables number) table news
    pub begun : ((done ≡ 0) × (news ≡ olds)) ⊎ HaveRoom g map_of olds

  pub starts : (map_of : FileMap) (tables : List StoredTable) (olds : List D) → Storing map_of tables olds 0 0 olds
  starts map_of tables olds = record { file_is = refl; wrote = wrote_none g (IsTablePlace map_of tables) olds; quiet = quiet_none g None olds; stand = λ n t lt. absurd (omega arith); begun = inl (refl, refl) }

  module _ (map_of : FileMap) (tables : List StoredTable) (files : map_of.files.items ≡ files_of tables) (each : All IsStorable tables) (m : IsMap map_of)
      (apart : (map_of : FileMap) (file page other number : ℕ) → IsMap map_of → HasPage map_of.files.items file page → HasPage map_of.files.items other number → drive_of map_of page ≡ drive_of map_of number → address_of map_of file page ≡ address_of map_of other number → file ≡ other) where
    pub cause_before : (olds bs cs : List D) (done file : ℕ) (e : StoreErr) → Storing map_of tables olds done file bs → StoreCause g map_of bs cs e → StoreCause g map_of olds cs e
    cause_before olds bs cs done file (DriveFault d) s cause = (room_before g map_of (IsTablePlace map_of tables) olds bs s.wrote cause.0, fault_before g (IsTablePlace map_of tables) olds bs cs d s.wrote cause.1)
    cause_before olds bs cs done file (DriveFull d needs capacity) s cause = elim s.begun [
      | inl b ↦ subst (λ (us : List D). IsFull g map_of d needs capacity us × (cs ≡ us)) b.1 cause
      | inr room ↦ absurd (not_full g map_of d needs capacity bs (room_kept g map_of (IsTablePlace map_of tables) olds bs s.wrote room) cause.0)
    ]
    cause_before olds bs cs done file NoMemory s cause = room_before g map_of (IsTablePlace map_of tables) olds bs s.wrote cause

    pub wrote_more : (olds bs cs : List D) (done file : ℕ) (table : StoredTable) → Storing map_of tables olds done file bs → AreWritten g (IsPlaceOf map_of file table) bs cs → AreWritten g (IsTablePlace map_of tables) olds cs
    wrote_more olds bs cs done file table s w =
        wrote_trans g (IsTablePlace map_of tables) (IsPlaceOf map_of file table) (IsTablePlace map_of tables) olds bs cs (λ d x k. k)
        (λ d x k. (file + k.0, file_below tables map_of.files.items (file + k.0) k.2.1.0 files k.2.1.1, k.2)) s.wrote w

    -- the pages of an earlier table stay
    stays : (bs cs : List D) (number file : ℕ) (table now : StoredTable) → file_number tables number + length (files_of_table table) ≤ file → slice_get tables number ≡ Some table →
        AreWritten g (IsPlaceOf map_of file now) bs cs → HoldTable g map_of (file_number tables number) table bs → HoldTable g map_of (file_number tables number) table cs
    stays bs cs number file table now le at w hold = record {
      heap = λ blocks cut page items c at_page at_c.
          let has = pages_there tables map_of.files.items number (file_number tables number) table blocks files refl each at cut in
          page_stays map_of m apart (IsPlaceOf map_of file now) bs cs (file_number tables number) page (page_of (file_number tables number) page items) c (has.0, has.1, omega (arith, has.2, get_below blocks page items at_page))
          (λ d x k. (file + k.0, λ e. absurd (omega (arith, le, e, some_files table)), k.2)) w at_c (λ b at_b. hold.heap blocks cut page items b at_page at_b);
      index = λ index has page bytes c at_page at_c.
          let own = index_pages_there tables map_of.files.items number (file_number tables number + 1) table index files refl at has in
          page_stays map_of m apart (IsPlaceOf map_of file now) bs cs (file_number tables number + 1) page bytes c (own.0, own.1, omega (arith, own.2, get_below (index_pages (file_number tables number + 1) index.entries) page bytes at_page))
          (λ d x k. (file + k.0, λ e. absurd (omega (arith, le, e, two_files table index has)), k.2)) w at_c (λ b at_b. hold.index index has page bytes b at_page at_b);
    }

    pub stored : (olds bs cs : List D) (done file count : ℕ) (table : StoredTable) → Storing map_of tables olds done file bs → slice_get tables done ≡ Some table → count ≡ length (files_of_table table) →
        AreWritten g (IsPlaceOf map_of file table) bs cs → AreQuiet g None bs cs → HaveRoom g map_of bs → HoldTable g map_of file table cs →
        Storing map_of tables olds (done + 1) (file + count) cs
    stored olds bs cs done file count table s at n w quiet room now =
        record {
          file_is = omega (arith, s.file_is, n, next_number tables done table at);
          wrote = wrote_more olds bs cs done file table s w;
          quiet = quiet_trans g None olds bs cs s.wrote.len s.quiet quiet;
          stand = λ number t less at_t. elim (cases_lt number done) [
            | inl before ↦ stays bs cs number file t table (omega (arith, up_to tables number done before (get_below tables done table at), next_number tables number t at_t, s.file_is)) at_t w (s.stand number t before at_t)
            | inr ge ↦ (
                let e : number ≡ done = omega arith in
                let at_done : slice_get tables done ≡ Some t = ap (slice_get tables) (sym e) ∙ at_t in
                let same : t ≡ table = one_at tables done t table at_done at in
                let f : file ≡ file_number tables number = s.file_is ∙ ap (file_number tables) (sym e) in
                subst (λ (k : ℕ). HoldTable g map_of k t cs) f (subst (λ (u : StoredTable). HoldTable g map_of file u cs) (sym same) now))
          ];
          begun = inr (room_before g map_of (IsTablePlace map_of tables) olds bs s.wrote room);
        }

    no_files : (tables : List StoredTable) → length tables ≤ 0 → files_of tables ≡ []
    no_files [] le = refl
    no_files (t ∷ ts) le = absurd (omega arith)

    pub room_at_end : (olds news : List D) (done file : ℕ) → length tables ≤ done → Storing map_of tables olds done file news → HaveRoom g map_of olds
    room_at_end olds news done file le s = elim s.begun [
      | inl b ↦ (λ d drive at.
          let e : map_of.files.items ≡ [] = files ∙ no_files tables (omega (arith, le, b.0)) in
          omega (arith, ap (shares map_of.drives d) e))
      | inr room ↦ room
    ]

    pub hold_at_end : (olds news : List D) (done file : ℕ) → length tables ≤ done → Storing map_of tables olds done file news → HoldTables g map_of tables news
    hold_at_end olds news done file le s = λ number table at. s.stand number table (omega (arith, le, get_below tables number table at)) at
