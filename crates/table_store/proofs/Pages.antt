-- The pages of a file, read one after the other.
use Rattle.std.proofs.Common.{◌≡◌, ℕ, zero, suc, ◌+◌, List, [], ◌∷◌, ◌++◌, length, map, Option, Some, None, refl, sym, ap, subst, ◌∙◌, append_assoc, arith, inl, inr}
use Rattle.std.specs.Prelude.{slice_get, ◌⊎◌, IfErr, MatchResult, Result, Ok, Err}
use Rattle.std.proofs.lemmas.List.{length-append, append-nil}
use Rattle.xp_outside.specs.Drives.{ReadsPage}
use Rattle.xp_outside.specs.declared.drive.Drive.{Ghosts}
use Rattle.heap_page.specs.declared.errors.BadPage.{BadPage}
use Rattle.heap_page.specs.declared.errors.FetchErr.{FetchErr}
use Rattle.heap_page.specs.declared.errors.FetchErr.TheVariants as fetch
use Rattle.heap_page.specs.declared.map.FileMap.{FileMap}
use Rattle.heap_page.specs.Blocks.{joined}
use Rattle.heap_page.specs.Maps.{address_of, drive_of, HasPage, HasPages}
use Rattle.heap_page.specs.Pages.{items_of}
use Rattle.heap_page.specs.Stores.{AreQuiet, AreRead}
pub use Rattle.heap_page.proofs.Drives.{fault_earlier, read_none, read_trans, room_read}
use Rattle.heap_page.proofs.Drives.{quiet_none, quiet_trans}
use Rattle.heap_page.proofs.Found.{get_below, there}
use Rattle.rows.specs.declared.plain.Column.{Column}
use Rattle.rows.specs.declared.value.Value.{Value}
use Rattle.table_store.specs.Readings.{ArePageRows, AreFileRows, Breaks, TableCause, TellsBreak}
use Rattle.table_store.specs.Steps.{IsBad, IsStep}
use Rattle.table_store.proofs.Encoded.{encoded_append}

pub get_last : {X : Type 0} (xs : List X) (x : X) (i : ℕ) (y : X) → slice_get (xs ++ x ∷ []) i ≡ Some y → (slice_get xs i ≡ Some y) ⊎ ((i ≡ length xs) × (x ≡ y))
get_last [] x zero y e = inr (refl, cc)
get_last [] x (suc i) y e = absurd cc
get_last (z ∷ xs) x zero y e = inl e
get_last (z ∷ xs) x (suc i) y e = elim (get_last xs x i y e) [ inl h ↦ inl h | inr h ↦ inr (ap suc h.0, h.1) ]

pub joined_last : (pages : List (List ℕ)) (page : List ℕ) → joined (map items_of (pages ++ page ∷ [])) ≡ joined (map items_of pages) ++ items_of page
joined_last [] page = append-nil (items_of page)
joined_last (p ∷ ps) page = ap (λ (ys : List (List ℕ)). items_of p ++ ys) (joined_last ps page) ∙ sym (append_assoc (items_of p) (joined (map items_of ps)) (items_of page))

module _ {D : Type 0} (g : Ghosts D) where
  module _ (map_of : FileMap) (file : ℕ) (columns : List Column) where
    pub cause_earlier : (us bs cs : List D) (e : FetchErr) → AreRead g us bs → TableCause g map_of file columns bs cs e → TableCause g map_of file columns us cs e
    cause_earlier us bs cs (fetch.DriveFault d) h cause = fault_earlier g us bs cs d h cause
    cause_earlier us bs cs (fetch.BadPage bad) h cause = (
      cause.0,
      cause.1,
      λ a at_a.
          let b = there bs (drive_of map_of bad.page) (omega (arith, get_below us (drive_of map_of bad.page) a at_a, h.len)) in
          let same = (h.each (drive_of map_of bad.page) a b.0 at_a b.1).told in
          subst (λ (ps : Option (List (List ℕ))). TellsBreak ps (address_of map_of file bad.page) columns file bad) same (cause.2 b.0 b.1),
    )
    cause_earlier us bs cs fetch.NoMemory h cause = tt

    -- the first pages were read
    pub record Reading (olds : List D) (number : ℕ) (rows : List (List Value)) (news : List D) : Type 0 where
      pub pages : List (List ℕ)
      pub len : length pages ≡ number
      pub rows_are : ArePageRows g map_of file columns olds pages rows
      pub read : AreRead g olds news
      pub quiet : AreQuiet g None olds news

    pub starts : (olds : List D) → Reading olds 0 [] olds
    starts olds = record {
      pages = [];
      len = refl;
      rows_are = record { told = λ n p d at at_d. absurd (let h = get_below [] n p at in omega (arith, h)); sound = λ n p at. absurd (let h = get_below [] n p at in omega (arith, h)); decoded = tt };
      read = read_none g olds;
      quiet = quiet_none g None olds;
    }

    page_told : (us bs : List D) (number : ℕ) (page : List ℕ) → AreRead g us bs → ((drive : D) → slice_get bs (drive_of map_of number) ≡ Some drive → ReadsPage (g.pages drive) (address_of map_of file number) page) →
        (drive : D) → slice_get us (drive_of map_of number) ≡ Some drive → ReadsPage (g.pages drive) (address_of map_of file number) page
    page_told us bs number page h told a at_a =
        let b = there bs (drive_of map_of number) (omega (arith, get_below us (drive_of map_of number) a at_a, h.len)) in
        let same = (h.each (drive_of map_of number) a b.0 at_a b.1).told in
        subst (λ (ps : Option (List (List ℕ))). ReadsPage ps (address_of map_of file number) page) same (told b.0 b.1)

    pub more : (olds bs cs : List D) (number : ℕ) (rows rows2 : List (List Value)) → Reading olds number rows bs → IsStep g map_of file columns bs number rows rows2 → AreRead g bs cs → AreQuiet g None bs cs →
        Reading olds (number + 1) rows2 cs
    more olds bs cs number rows rows2 r s k q = record {
      pages = r.pages ++ s.page ∷ [];
      len = length-append r.pages (s.page ∷ []) ∙ omega (arith, r.len);
      rows_are = record {
        told = λ n p d at at_d. elim (get_last r.pages s.page n p at) [
          | inl h ↦ r.rows_are.told n p d h at_d
          | inr h ↦ (
              let e : n ≡ number = h.0 ∙ r.len in
              let one = page_told olds bs number s.page r.read s.told in
              told_at n number p s.page olds e h.1 one d at_d)
        ];
        sound = λ n p at. elim (get_last r.pages s.page n p at) [
          | inl h ↦ r.rows_are.sound n p h
          | inr h ↦ (
              let e : n ≡ number = h.0 ∙ r.len in
              rw (e, ← h.1) s.sound)
        ];
        decoded = rw (joined_last r.pages s.page, s.added.1) (encoded_append columns rows (joined (map items_of r.pages)) s.added.0 (items_of s.page) r.rows_are.decoded s.added.2);
      };
      read = read_trans g olds bs cs r.read k;
      quiet = quiet_trans g None olds bs cs r.read.len r.quiet q;
    } where
      told_at : (n number : ℕ) (p page : List ℕ) (us : List D) → n ≡ number → page ≡ p →
          ((drive : D) → slice_get us (drive_of map_of number) ≡ Some drive → ReadsPage (g.pages drive) (address_of map_of file number) page) →
          (drive : D) → slice_get us (drive_of map_of n) ≡ Some drive → ReadsPage (g.pages drive) (address_of map_of file n) p
      told_at n number p page us e f one = rw (e, ← f) one

    pub all_read : (olds news : List D) (count : ℕ) (rows : List (List Value)) → HasPages map_of.files.items file count → Reading olds count rows news → AreFileRows g map_of file columns olds rows
    all_read olds news count rows h r = record { pages = r.pages; all = (h.0, h.1, h.2 ∙ sym r.len); read = r.rows_are }

    told_break : (pages : Option (List (List ℕ))) (address : ℕ) (bad : BadPage) (page : List ℕ) → ReadsPage pages address page → Breaks columns file bad.page page bad.rule → TellsBreak pages address columns file bad
    told_break None address bad page told h = (page, h)
    told_break (Some ps) address bad page told h = (page, told, h)

    bad_here : (olds news : List D) (number : ℕ) (page : List ℕ) (e : FetchErr) → HasPage map_of.files.items file number →
        ((drive : D) → slice_get olds (drive_of map_of number) ≡ Some drive → ReadsPage (g.pages drive) (address_of map_of file number) page) →
        IsBad columns file number page e → TableCause g map_of file columns olds news e
    bad_here olds news number page (fetch.DriveFault d) has told h = elim h [ ]
    bad_here olds news number page (fetch.BadPage bad) has told h =
        let e = h.1 in (
          h.0,
          rw e has,
          λ drive at.
              let at_number : slice_get olds (drive_of map_of number) ≡ Some drive = subst (λ (n : ℕ). slice_get olds (drive_of map_of n) ≡ Some drive) e at in
              let told_bad = subst (λ (n : ℕ). ReadsPage (g.pages drive) (address_of map_of file n) page) (sym e) (told drive at_number) in
              told_break (g.pages drive) (address_of map_of file bad.page) bad page told_bad (rw e h.2),
        )
    bad_here olds news number page fetch.NoMemory has told h = tt

    pub bad_cause : {X : Type 0} (P : X → Type 0) (olds news : List D) (number : ℕ) (page : List ℕ) → HasPage map_of.files.items file number →
        ((drive : D) → slice_get olds (drive_of map_of number) ≡ Some drive → ReadsPage (g.pages drive) (address_of map_of file number) page) →
        (r : Result X FetchErr) → MatchResult r P (IsBad columns file number page) → IfErr r (TableCause g map_of file columns olds news)
    bad_cause P olds news number page has told (Ok x) h = tt
    bad_cause P olds news number page has told (Err e) h = bad_here olds news number page e has told h
