-- Where a page that was laid on drives is bad: its drive doesn't tell it.
use Rattle.std.proofs.Common.{◌≡◌, ℕ, ◌+◌, ◌<◌, ◌≤◌, ◌^◌, Bool, true, false, cond, not, leb, eqb, ◌&&◌, List, length, map, take, ◌*◌, Option, Some, None, refl, sym, ap, subst, ◌∙◌, arith, inl, inr}
use Rattle.std.specs.Prelude.{slice_get, slice_range}
use Rattle.std.specs.List.{All, list_all}
use Rattle.std.specs.Str.{bytes_eq}
use Rattle.xp_outside.specs.declared.drive.Drive.{Ghosts}
use Rattle.heap_page.specs.declared.errors.BadPage.{BadPage}
use Rattle.heap_page.specs.declared.head.FileKind.TheVariants.{Heap}
use Rattle.heap_page.specs.declared.map.PageFile.{PageFile}
use Rattle.heap_page.specs.Blocks.{ArePages}
use Rattle.heap_page.specs.Fields.{short_at, long_at}
use Rattle.heap_page.specs.Maps.{address_of, drive_of}
use Rattle.heap_page.specs.Pages.{body_fault, fault_of, first_of, head_fault, is_stacked, items_of, magic_of, page_of}
use Rattle.heap_page.proofs.Found.{get_below, one_at, there}
use Rattle.heap_page.proofs.Striping.{file_pages}
use Rattle.rows.specs.declared.plain.Column.{Column}
use Rattle.rows.specs.declared.plain.Relation.{Relation}
use Rattle.rows.specs.declared.value.Value.{Value}
use Rattle.rows.specs.RowBytes.{IsRowOf, row_bytes}
use Rattle.rel_meaning.specs.declared.query.Table.{Table}
use Rattle.table_store.specs.declared.database.Laid.{Laid}
use Rattle.table_store.specs.Databases.{AllFresh, IsBadPage, IsLaidOut, MayStore}
use Rattle.table_store.specs.Files.{IsStorable, file_number, table_blocks}
use Rattle.table_store.specs.Readings.{Breaks, HasStranger, TellsBreak}
use Rattle.table_store.proofs.Again.{no_stranger}
use Rattle.table_store.proofs.Cut.{are_pages}
use Rattle.table_store.proofs.Filed.{all_at, number_small, pages_there}

-- ---- the rules have the numbers 1 to 9

abbrev IsRule : ℕ → Type 0
IsRule rule = (1 ≤ rule) × (rule ≤ 9)

-- a test that breaks a rule, or leaves it to the next ones
tested : (b : Bool) (k rule : ℕ) (rest : Option ℕ) → 1 ≤ k → k ≤ 9 → (rest ≡ Some rule → IsRule rule) → cond (not b) (Some k) rest ≡ Some rule → IsRule rule
tested true k rule rest low high next e = next e
tested false k rule rest low high next e = let same : k ≡ rule = cc in (omega (arith, low, same), omega (arith, high, same))

no_rule : (rule : ℕ) → ◌≡◌ {A = Option ℕ} None (Some rule) → IsRule rule
no_rule rule e = absurd cc

head_rule : (file number : ℕ) (bytes : List ℕ) (rule : ℕ) → head_fault Heap file number bytes ≡ Some rule → IsRule rule
unfolding head_fault
head_rule file number bytes rule h =
    tested (bytes_eq (take 4 bytes) (magic_of Heap)) 1 rule _ (omega arith) (omega arith) (λ a.
    tested (eqb (short_at bytes 4) 2) 2 rule _ (omega arith) (omega arith) (λ b.
    tested (eqb (short_at bytes 18) 0) 3 rule _ (omega arith) (omega arith) (λ c.
    tested (eqb (long_at bytes 8) file) 4 rule _ (omega arith) (omega arith) (λ d.
    tested (eqb (long_at bytes 12) number) 5 rule None (omega arith) (omega arith) (no_rule rule) d) c) b) a) h

body_rule : (bytes : List ℕ) (rule : ℕ) → body_fault bytes ≡ Some rule → IsRule rule
unfolding body_fault
body_rule bytes rule h =
    let end = 20 + 4 * short_at bytes 6 in
    tested (leb end (short_at bytes 16) && leb (short_at bytes 16) 8192) 6 rule _ (omega arith) (omega arith) (λ a.
    tested (is_stacked bytes (short_at bytes 16) 8192 0 (short_at bytes 6)) 7 rule _ (omega arith) (omega arith) (λ b.
    tested (list_all (λ x. eqb x 0) (slice_range bytes end (short_at bytes 16))) 8 rule None (omega arith) (omega arith) (no_rule rule) b) a) h

either : (a b : Option ℕ) (rule : ℕ) → (a ≡ Some rule → IsRule rule) → (b ≡ Some rule → IsRule rule) → first_of a b ≡ Some rule → IsRule rule
either None b rule left right e = right e
either (Some r) b rule left right e = left e

pub some_rule : (columns : List Column) (file number : ℕ) (bytes : List ℕ) (rule : ℕ) → Breaks columns file number bytes rule → IsRule rule
some_rule columns file number bytes rule (inl fault) =
    either (head_fault Heap file number bytes) (body_fault bytes) rule (head_rule file number bytes rule) (body_rule bytes rule) fault
some_rule columns file number bytes rule (inr stranger) = (omega (arith, stranger.1), omega (arith, stranger.1))

-- some page breaks the rule, whatever is told
told_rule : (pages : Option (List (List ℕ))) (address : ℕ) (columns : List Column) (file : ℕ) (bad : BadPage) → TellsBreak pages address columns file bad → IsRule bad.rule
told_rule None address columns file bad h = some_rule columns file bad.page h.0 bad.rule h.1
told_rule (Some pages) address columns file bad h = some_rule columns file bad.page h.0 bad.rule h.2

-- ---- a page that was laid breaks none

none_some : (rule : ℕ) → ◌≡◌ {A = Option ℕ} None (Some rule) → ⊥
none_some rule e = absurd cc

untold_by : (told : Option (List (List ℕ))) → ((pages : List (List ℕ)) → told ≡ Some pages → ⊥) → told ≡ None
untold_by None h = refl
untold_by (Some pages) h = absurd (h pages refl)

told_break : (told : Option (List (List ℕ))) (pages : List (List ℕ)) (address : ℕ) (columns : List Column) (file : ℕ) (bad : BadPage) (bytes : List ℕ) → told ≡ Some pages → slice_get pages address ≡ Some bytes →
    TellsBreak told address columns file bad → Breaks columns file bad.page bytes bad.rule
told_break told pages address columns file bad bytes e at h =
    let b : TellsBreak (Some pages) address columns file bad = subst (λ (ps : Option (List (List ℕ))). TellsBreak ps address columns file bad) e h in
    let same : b.0 ≡ bytes = some_same b.0 bytes (sym b.1 ∙ at) in
    subst (λ (p : List ℕ). Breaks columns file bad.page p bad.rule) same b.2 where
      some_same : (a c : List ℕ) → ◌≡◌ {A = Option (List ℕ)} (Some a) (Some c) → a ≡ c
      some_same a c k = cc

module _ (accepted : (file number : ℕ) (items block : List (List ℕ)) (blocks : List (List (List ℕ))) → file < 2 ^ 32 → number < 2 ^ 32 → ArePages items blocks → slice_get blocks number ≡ Some block → fault_of file number (page_of file number block) ≡ None)
    (again : (file number : ℕ) (items block : List (List ℕ)) (blocks : List (List (List ℕ))) → file < 2 ^ 32 → number < 2 ^ 32 → ArePages items blocks → slice_get blocks number ≡ Some block → items_of (page_of file number block) ≡ block) where
  sound : (columns : List Column) (rows : List (List Value)) (blocks : List (List (List ℕ))) (file number : ℕ) (block : List (List ℕ)) (rule : ℕ) → length columns ≤ 32 → All (IsRowOf columns) rows → ArePages (map (row_bytes columns) rows) blocks →
      file < 2 ^ 32 → number < 2 ^ 32 → slice_get blocks number ≡ Some block → Breaks columns file number (page_of file number block) rule → ⊥
  sound columns rows blocks file number block rule few are_rows cut small low at (inl fault) = none_some rule (sym (accepted file number (map (row_bytes columns) rows) block blocks small low cut at) ∙ fault)
  sound columns rows blocks file number block rule few are_rows cut small low at (inr stranger) =
      no_stranger columns rows blocks number block few are_rows cut.same at (subst (HasStranger columns) (again file number (map (row_bytes columns) rows) block blocks small low cut at) stranger.2)

  module _ {D : Type 0} (g : Ghosts D) (relations : List Relation) (db : List Table) (olds mids : List D) (laid : Laid) (may : MayStore relations db) (fresh : AllFresh g olds) (out : IsLaidOut g relations db olds mids laid) where
    module _ (bad : BadPage) (is : IsBadPage g laid relations mids bad) where
      pub within : is.place < length out.tables
      within = omega (arith, get_below relations is.place is.relation is.here, out.stored.count)

      pub file_is : bad.file ≡ file_number out.tables is.place
      file_is = out.are.heaps is.place bad.file is.file

      file_small : bad.file < 2 ^ 32
      file_small = omega (arith, file_is, number_small out.tables is.place, out.stored.count, may.few)

      pub untold_page : (drive : D) → slice_get mids (drive_of laid.map bad.page) ≡ Some drive → g.pages drive ≡ None
      untold_page drive at = untold_by (g.pages drive) (λ pages told.
          let table = there db is.place (omega (arith, get_below relations is.place is.relation is.here, may.count)) in
          let stored = there out.tables is.place within in
          let fits = may.each is.place is.relation table.0 is.here table.1 in
          let items = (out.stored.each is.place is.relation table.0 stored.0 is.here table.1 stored.1).items in
          let cut = are_pages stored.0.items (all_at IsStorable out.tables is.place stored.0 out.storable stored.1).fit in
          let blocks = table_blocks stored.0 in
          let own = pages_there out.tables laid.map.files.items is.place bad.file stored.0 blocks out.are.of.files file_is out.storable stored.1 cut in
          let same : is.page.0.pages ≡ length blocks = ap (λ (f : PageFile). f.pages) (one_at laid.map.files.items bad.file is.page.0 own.0 is.page.1 own.1) ∙ own.2 in
          let lt : bad.page < length blocks = omega (arith, is.page.2, same) in
          let block = there blocks bad.page lt in
          let part = out.image fresh (drive_of laid.map bad.page) drive pages at told in
          let stands = part.stored is.place stored.0 blocks bad.page block.0 stored.1 cut block.1 refl in
          let here = subst (λ (f : ℕ). slice_get pages (address_of laid.map f bad.page) ≡ Some (page_of f bad.page block.0)) (sym file_is) stands in
          let broken = told_break (g.pages drive) pages (address_of laid.map bad.file bad.page) is.relation.columns bad.file bad (page_of bad.file bad.page block.0) told here (is.breaks drive at) in
          let small : bad.page < 2 ^ 32 = omega (arith, file_pages laid.map.files.items bad.file own.0 own.1, own.2, lt, out.are.of.is_map.small) in
          sound table.0.columns table.0.rows blocks bad.file bad.page block.0 bad.rule fits.few fits.rows (subst (λ (xs : List (List ℕ)). ArePages xs blocks) items cut)
          file_small small block.1
          (subst (λ (cs : List Column). Breaks cs bad.file bad.page (page_of bad.file bad.page block.0) bad.rule) (sym fits.columns) broken))

      pub rule_is : (drive : D) → slice_get mids (drive_of laid.map bad.page) ≡ Some drive → (1 ≤ bad.rule) × (bad.rule ≤ 9)
      rule_is drive at = told_rule (g.pages drive) (address_of laid.map bad.file bad.page) is.relation.columns bad.file bad (is.breaks drive at)
