-- Rows that are told are read again.
use Rattle.std.proofs.Common.{◌≡◌, ℕ, zero, suc, ◌^◌, ◌<◌, ◌≤◌, List, [], ◌∷◌, ◌++◌, length, map, Option, Some, None, refl, sym, ap, subst, ◌∙◌, arith, inl, inr}
use Rattle.std.specs.Prelude.{slice_get, is_some, IsTrue, IfErr, Result, Ok, Err}
use Rattle.std.specs.List.{All}
use Rattle.std.proofs.lemmas.Nat.{mod_below}
use Rattle.xp_outside.specs.Drives.{ReadsPage}
use Rattle.xp_outside.specs.declared.drive.Drive.{Ghosts}
use Rattle.heap_page.specs.declared.errors.BadPage.{BadPage}
use Rattle.heap_page.specs.declared.errors.FetchErr.{FetchErr}
use Rattle.heap_page.specs.declared.errors.FetchErr.TheVariants as fetch
use Rattle.heap_page.specs.declared.map.FileMap.{FileMap}
use Rattle.heap_page.specs.declared.map.PageFile.{PageFile}
use Rattle.heap_page.specs.Blocks.{ArePages, joined}
use Rattle.heap_page.specs.Maps.{address_of, drive_of, HasPages, IsMap}
use Rattle.heap_page.specs.Pages.{fault_of, items_of, page_of}
use Rattle.heap_page.specs.Stores.{AreRead, AreWritten, KeepsBut, TellsAt}
use Rattle.heap_page.proofs.Found.{get_below, one_at, there}
use Rattle.rows.specs.declared.plain.Column.{Column}
use Rattle.rows.specs.declared.value.Value.{Value}
use Rattle.rows.specs.RowBytes.{IsRowOf, row_bytes}
use Rattle.table_store.specs.declared.files.StoredTable.{StoredTable}
use Rattle.table_store.specs.Files.{IsStorable, file_number, files_of, table_blocks}
use Rattle.table_store.specs.Images.{HoldTables}
use Rattle.table_store.specs.Readings.{AllTell, AreDecoded, AreFileRows, Breaks, HasStranger, TableCause, TellRows, TellsBreak}
use Rattle.heap_page.proofs.Striping.{file_pages}
use Rattle.table_store.proofs.Cut.{are_pages}
use Rattle.table_store.proofs.Filed.{all_at, pages_there}

-- ---- rows and their items

pub all_rows : (columns : List Column) (rows : List (List Value)) (items : List (List ℕ)) → AreDecoded columns rows items → All (IsRowOf columns) rows
all_rows columns [] items h = λ k d lt. absurd (omega arith)
all_rows columns (r ∷ rs) [] h = elim h [ ]
all_rows columns (r ∷ rs) (i ∷ is) h = by (all_rows columns rs is h.1) where
  by : All (IsRowOf columns) rs → All (IsRowOf columns) (r ∷ rs)
  by rest zero d lt = h.0.sound.is_row
  by rest (suc k) d lt = rest k d (omega arith)

pub same_rows : (columns : List Column) (rows : List (List Value)) (items : List (List ℕ)) (others : List (List Value)) → length columns ≤ 32 → All (IsRowOf columns) others →
    AreDecoded columns rows items → items ≡ map (row_bytes columns) others → rows ≡ others
same_rows columns [] [] [] few each h e = refl
same_rows columns [] [] (o ∷ os) few each h e = absurd cc
same_rows columns [] (i ∷ is) others few each h e = elim h [ ]
same_rows columns (r ∷ rs) [] others few each h e = elim h [ ]
same_rows columns (r ∷ rs) (i ∷ is) [] few each h e = absurd cc
same_rows columns (r ∷ rs) (i ∷ is) (o ∷ os) few each h e =
    let head : i ≡ row_bytes columns o = cc in
    let rest : is ≡ map (row_bytes columns) os = cc in
    let found : Some r ≡ Some o = h.0.complete o (record { few = few; is_row = each 0 [] (omega arith); are_bytes = head }) in
    let one : r ≡ o = cc in
    ap (λ (x : List Value). x ∷ rs) one ∙ ap (λ (xs : List (List Value)). o ∷ xs) (same_rows columns rs is os few (λ k d lt. each (suc k) d (omega arith)) h.1 rest)

in_map : {X Y : Type 0} (f : X → Y) (xs : List X) (k : ℕ) (y : Y) → slice_get (map f xs) k ≡ Some y → (x : X) × (slice_get xs k ≡ Some x) × (y ≡ f x)
in_map f [] k y e = absurd cc
in_map f (x ∷ xs) zero y e = (x, refl, cc)
in_map f (x ∷ xs) (suc k) y e = in_map f xs k y e

get_front : {X : Type 0} (xs ys : List X) (k : ℕ) (x : X) → slice_get xs k ≡ Some x → slice_get (xs ++ ys) k ≡ Some x
get_front [] ys k x e = absurd cc
get_front (z ∷ xs) ys zero x e = e
get_front (z ∷ xs) ys (suc k) x e = get_front xs ys k x e

get_back : {X : Type 0} (xs ys : List X) (k : ℕ) (x : X) → slice_get ys k ≡ Some x → (j : ℕ) × (slice_get (xs ++ ys) j ≡ Some x)
get_back [] ys k x e = (k, e)
get_back (z ∷ xs) ys k x e = let h = get_back xs ys k x e in (suc h.0, h.1)

in_joined : {X : Type 0} (blocks : List (List X)) (n : ℕ) (block : List X) (slot : ℕ) (x : X) → slice_get blocks n ≡ Some block → slice_get block slot ≡ Some x → (k : ℕ) × (slice_get (joined blocks) k ≡ Some x)
in_joined [] n block slot x at e = absurd cc
in_joined (b ∷ bs) zero block slot x at e = let h : block ≡ b = cc in (slot, get_front b (joined bs) slot x (rw (← h) e))
in_joined (b ∷ bs) (suc n) block slot x at e = let h = in_joined bs n block slot x at e in get_back b (joined bs) h.0 x h.1

maps_to : {X Y : Type 0} (f : X → Y) (xs : List X) (ys : List Y) → length xs ≡ length ys → ((n : ℕ) (x : X) (y : Y) → slice_get xs n ≡ Some x → slice_get ys n ≡ Some y → f x ≡ y) → map f xs ≡ ys
maps_to f [] [] len h = refl
maps_to f [] (y ∷ ys) len h = absurd (omega (arith, len))
maps_to f (x ∷ xs) [] len h = absurd (omega (arith, len))
maps_to f (x ∷ xs) (y ∷ ys) len h =
    ap (λ (z : _). z ∷ map f xs) (h 0 x y refl refl) ∙ ap (λ (zs : List _). y ∷ zs) (maps_to f xs ys (omega (arith, len)) (λ n a b at_a at_b. h (suc n) a b at_a at_b))

-- the item is a row's
pub no_stranger : (columns : List Column) (rows : List (List Value)) (blocks : List (List (List ℕ))) (n : ℕ) (block : List (List ℕ)) → length columns ≤ 32 → All (IsRowOf columns) rows →
    joined blocks ≡ map (row_bytes columns) rows → slice_get blocks n ≡ Some block → HasStranger columns block → ⊥
no_stranger columns rows blocks n block few each same at s =
    let j = in_joined blocks n block s.0 s.1 at s.2 in
    let m = in_map (row_bytes columns) rows j.0 s.1 (ap (λ (xs : List (List ℕ)). slice_get xs j.0) (sym same) ∙ j.1) in
    s.3 m.0 (record { few = few; is_row = all_at (IsRowOf columns) rows j.0 m.0 each m.1; are_bytes = m.2 })

one_number : (files : List PageFile) (file n m : ℕ) → HasPages files file n → HasPages files file m → n ≡ m
one_number files file n m h k = sym h.2 ∙ (ap (λ (f : PageFile). f.pages) (one_at files file h.0 k.0 h.1 k.1) ∙ k.2)

told_same : (pages : Option (List (List ℕ))) (address : ℕ) (page bytes : List ℕ) → IsTrue (is_some pages) → ReadsPage pages address page → TellsAt pages address bytes → page ≡ bytes
told_same None address page bytes some told stand = absurd cc
told_same (Some ps) address page bytes some told stand = stand page told

broken : (pages : Option (List (List ℕ))) (address : ℕ) (columns : List Column) (file : ℕ) (bad : BadPage) (bytes : List ℕ) → IsTrue (is_some pages) → TellsBreak pages address columns file bad → TellsAt pages address bytes → Breaks columns file bad.page bytes bad.rule
broken None address columns file bad bytes some b stand = absurd cc
broken (Some ps) address columns file bad bytes some b stand = subst (λ (p : List ℕ). Breaks columns file bad.page p bad.rule) (stand b.0 b.1) b.2

module _ {D : Type 0} (g : Ghosts D) (map_of : FileMap) (file : ℕ) (columns : List Column) (drives : List D) (m : IsMap map_of) (len : length drives ≡ map_of.drives) (small : file < 2 ^ 32)
    (accepted : (file number : ℕ) (items block : List (List ℕ)) (blocks : List (List (List ℕ))) → file < 2 ^ 32 → number < 2 ^ 32 → ArePages items blocks → slice_get blocks number ≡ Some block → fault_of file number (page_of file number block) ≡ None)
    (again : (file number : ℕ) (items block : List (List ℕ)) (blocks : List (List (List ℕ))) → file < 2 ^ 32 → number < 2 ^ 32 → ArePages items blocks → slice_get blocks number ≡ Some block → items_of (page_of file number block) ≡ block) where
  number_below : (rows : List (List Value)) (t : TellRows g map_of file columns rows drives) (n : ℕ) → n < length t.blocks → n < 2 ^ 32
  number_below rows t n lt = omega (arith, file_pages map_of.files.items file t.number.0 t.number.1, t.number.2, m.small)

  drive_at : (n : ℕ) → (drive : D) × (slice_get drives (drive_of map_of n) ≡ Some drive)
  drive_at n = there drives (drive_of map_of n) (omega (arith, mod_below n map_of.drives m.some, len))

  pub read_again : (rows found : List (List Value)) → TellRows g map_of file columns rows drives → AreFileRows g map_of file columns drives found → found ≡ rows
  read_again rows found t r =
      let same_length : length r.pages ≡ length t.blocks = one_number map_of.files.items file (length r.pages) (length t.blocks) r.all t.number in
      let all_same : map items_of r.pages ≡ t.blocks = maps_to items_of r.pages t.blocks same_length (λ n page block at_p at_b.
      let d = drive_at n in
      let is : page ≡ page_of file n block = told_same (g.pages d.0) (address_of map_of file n) page (page_of file n block) (t.tell (drive_of map_of n) d.0 d.1) (r.read.told n page d.0 at_p d.1) (t.stand n block d.0 at_b d.1) in
      ap items_of is ∙ again file n (map (row_bytes columns) rows) block t.blocks small (number_below rows t n (get_below t.blocks n block at_b)) t.cut at_b) in
      same_rows columns found (joined (map items_of r.pages)) rows t.few t.are_rows r.read.decoded (ap (λ (bs : List (List (List ℕ))). joined bs) all_same ∙ t.cut.same)

  pub never_bad : (rows : List (List Value)) (news : List D) (bad : BadPage) → TellRows g map_of file columns rows drives → TableCause g map_of file columns drives news (fetch.BadPage bad) → ⊥
  never_bad rows news bad t cause =
      let f = cause.1 in
      let same : f.0.pages ≡ length t.blocks = ap (λ (x : PageFile). x.pages) (one_at map_of.files.items file f.0 t.number.0 f.1 t.number.1) ∙ t.number.2 in
      let lt : bad.page < length t.blocks = omega (arith, f.2, same) in
      let block = there t.blocks bad.page lt in
      let d = drive_at bad.page in
      let ns = number_below rows t bad.page lt in
      let b = broken (g.pages d.0) (address_of map_of file bad.page) columns file bad (page_of file bad.page block.0) (t.tell (drive_of map_of bad.page) d.0 d.1) (cause.2 d.0 d.1) (t.stand bad.page block.0 d.0 block.1 d.1) in
      let ok = accepted file bad.page (map (row_bytes columns) rows) block.0 t.blocks small ns t.cut block.1 in
      elim b [
        | inl fault ↦ none_some bad.rule (sym ok ∙ fault)
        | inr stranger ↦ no_stranger columns rows t.blocks bad.page block.0 t.few t.are_rows t.cut.same block.1
            (subst (HasStranger columns) (again file bad.page (map (row_bytes columns) rows) block.0 t.blocks small ns t.cut block.1) stranger.2)
      ] where
        none_some : (rule : ℕ) → None ≡ Some rule → ⊥
        none_some rule e = absurd cc

  pub no_bad_result : {X : Type 0} (rows : List (List Value)) (news : List D) (r : Result X FetchErr) (bad : BadPage) → TellRows g map_of file columns rows drives → IfErr r (TableCause g map_of file columns drives news) → r ≡ Err (fetch.BadPage bad) → ⊥
  no_bad_result rows news (Ok x) bad t h e = absurd cc
  no_bad_result rows news (Err f) bad t h e = let same : f ≡ fetch.BadPage bad = cc in never_bad rows news bad t (subst (TableCause g map_of file columns drives news) same h)

module _ {D : Type 0} (g : Ghosts D) where
  still_some : (P : ℕ → Type 0) (old new : Option (List (List ℕ))) → KeepsBut P old new → IsTrue (is_some old) → IsTrue (is_some new)
  still_some P None new k h = absurd cc
  still_some P (Some f) None k h = elim k [ ]
  still_some P (Some f) (Some f2) k h = h

  still_tell : (P : ℕ → ℕ → Type 0) (us bs : List D) → AreWritten g P us bs → AllTell g us → AllTell g bs
  still_tell P us bs w tell = λ d b at_b.
      let a = there us d (omega (arith, get_below bs d b at_b, w.len)) in
      still_some (P d) (g.pages a.0) (g.pages b) (w.each d a.0 b a.1 at_b).others (tell d a.0 a.1)

  pub tell_rows : (map_of : FileMap) (tables : List StoredTable) (P : ℕ → ℕ → Type 0) (olds news : List D) (number : ℕ) (table : StoredTable) (columns : List Column) (rows : List (List Value)) →
      map_of.files.items ≡ files_of tables → All IsStorable tables → AreWritten g P olds news → HoldTables g map_of tables news → slice_get tables number ≡ Some table →
      table.items ≡ map (row_bytes columns) rows → length columns ≤ 32 → All (IsRowOf columns) rows → AllTell g olds → TellRows g map_of (file_number tables number) columns rows news
  tell_rows map_of tables P olds news number table columns rows files each w hold at same few are_rows tell =
      let cut = are_pages table.items (all_at IsStorable tables number table each at).fit in
      record {
        few = few;
        are_rows = are_rows;
        blocks = table_blocks table;
        cut = subst (λ (items : List (List ℕ)). ArePages items (table_blocks table)) same cut;
        number = pages_there tables map_of.files.items number (file_number tables number) table (table_blocks table) files refl each at cut;
        tell = still_tell P olds news w tell;
        stand = (hold number table at).heap (table_blocks table) cut;
      }

  pub tell_kept : (map_of : FileMap) (us bs : List D) (other : ℕ) (columns : List Column) (rows : List (List Value)) → AreRead g us bs → TellRows g map_of other columns rows us → TellRows g map_of other columns rows bs
  tell_kept map_of us bs other columns rows h t = record {
    few = t.few;
    are_rows = t.are_rows;
    blocks = t.blocks;
    cut = t.cut;
    number = t.number;
    tell = λ d b at_b.
        let a = there us d (omega (arith, get_below bs d b at_b, h.len)) in
        let same = (h.each d a.0 b a.1 at_b).told in
        subst (λ (ps : Option (List (List ℕ))). IsTrue (is_some ps)) (sym same) (t.tell d a.0 a.1);
    stand = λ page items b at_page at_b.
        let d = drive_of map_of page in
        let a = there us d (omega (arith, get_below bs d b at_b, h.len)) in
        let same = (h.each d a.0 b a.1 at_b).told in
        subst (λ (ps : Option (List (List ℕ))). TellsAt ps (address_of map_of other page) (page_of other page items)) (sym same) (t.stand page items a.0 at_page a.1);
  }
