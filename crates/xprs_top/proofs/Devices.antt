-- What drives show.
use Rattle.std.proofs.Common.{◌≡◌, ℕ, zero, suc, Bool, List, [], ◌∷◌, length, take, ◌++◌, Option, Some, None, Result, Ok, Err, refl, sym, ap, subst, ◌∙◌, arith, inl, inr}
use Rattle.std.specs.Prelude.{is_some, IsTrue, ◌⊎◌, ◌<◌, ◌≤◌, ◌^◌, slice_get}
use Rattle.std.proofs.lemmas.Nat.{mod_below}
use Rattle.std.specs.Global.{Vec}
use Rattle.xp_outside.specs.declared.drive.Drive.{Ghosts}
use Rattle.heap_page.specs.declared.errors.BadPage.{BadPage}
use Rattle.heap_page.specs.declared.errors.FetchErr.{FetchErr}
use Rattle.heap_page.specs.declared.errors.FetchErr.TheVariants as fetch
use Rattle.heap_page.specs.declared.errors.StoreErr.{StoreErr}
use Rattle.heap_page.specs.declared.errors.StoreErr.TheVariants as store
use Rattle.heap_page.specs.declared.map.FileMap.{FileMap}
use Rattle.heap_page.specs.Blocks.{ArePages}
use Rattle.heap_page.specs.Maps.{drive_of}
use Rattle.heap_page.specs.Pages.{fault_of, items_of, page_of}
use Rattle.heap_page.specs.Stores.{AreRead, IsFault}
use Rattle.heap_page.proofs.Found.{get_below, there}
use Rattle.rel_meaning.specs.declared.query.Table.{Table}
use Rattle.rows.specs.declared.plain.Machine.{Machine}
use Rattle.table_store.specs.declared.database.Laid.{Laid}
use Rattle.table_store.specs.declared.files.StoredTable.{StoredTable}
use Rattle.table_store.specs.Databases.{AllFresh, AreKept, IsBadPage, IsLaidOut, LayoutCause, MayStore, ReadCause, TellTables}
use Rattle.table_store.specs.Files.{file_number}
use Rattle.table_store.specs.Images.{HoldImage}
use Rattle.table_store.specs.Readings.{AllTell}
use Rattle.table_store.proofs.Laying.{kept_reading, kept_trans}
use Rattle.table_store.proofs.Pages.{room_read}
use Rattle.table_store.proofs.Untold.{file_is, rule_is, untold_page, within}
use Rattle.xprs_top.specs.Devices.{Fit, HasFailed, IsUntold, Makes, ReadsBad}
use Rattle.xprs_top.specs.declared.goal.Goal.{Goal}
use Rattle.xprs_top.specs.declared.goal.Goal.TheVariants.{Answers}
use Rattle.xprs_top.specs.Readings.{Checked, over}
use Rattle.xprs_top.specs.declared.status.Status.{Status}
use Rattle.xprs_top.specs.declared.status.Status.TheVariants.{Done, Usage, Refused, ShelfFault, DriveFault, Bad, SinkFault, NoMemory, DriveFull, NotBuilt, TooLarge}
use Rattle.xprs_top.specs.Texts.{Answered, IsAnswered, IsLarge}
use Rattle.xprs_top.specs.Statuses.{of_fetch, of_store}

-- what is known of the pages of items
abbrev pub PagesAccepted : Type 0
PagesAccepted = (file number : ℕ) (items block : List (List ℕ)) (blocks : List (List (List ℕ))) → file < 2 ^ 32 → number < 2 ^ 32 → ArePages items blocks → slice_get blocks number ≡ Some block →
    fault_of file number (page_of file number block) ≡ None

abbrev pub PagesAgain : Type 0
PagesAgain = (file number : ℕ) (items block : List (List ℕ)) (blocks : List (List (List ℕ))) → file < 2 ^ 32 → number < 2 ^ 32 → ArePages items blocks → slice_get blocks number ≡ Some block →
    items_of (page_of file number block) ≡ block

module _ {D : Type 0} (g : Ghosts D) where
  -- all drives tell, or one doesn't
  told_or_not : (p : Option (List (List ℕ))) → IsTrue (is_some p) ⊎ (p ≡ None)
  told_or_not None = inr refl
  told_or_not (Some pages) = inl refl

  none_tell : AllTell g []
  none_tell d drive e = absurd cc

  more_tell : (x : D) (xs : List D) → IsTrue (is_some (g.pages x)) → AllTell g xs → AllTell g (x ∷ xs)
  more_tell x xs h all zero drive e = let same : x ≡ drive = cc in subst (λ (y : D). IsTrue (is_some (g.pages y))) same h
  more_tell x xs h all (suc d) drive e = all d drive e

  pub tell_or_untold : (drives : List D) → AllTell g drives ⊎ IsUntold g drives
  tell_or_untold [] = inl none_tell
  tell_or_untold (x ∷ xs) = elim (told_or_not (g.pages x)) [
    | inr none ↦ inr (record { number = 0; drive = x; here = refl; untold = none })
    | inl some ↦ elim (tell_or_untold xs) [
      | inl all ↦ inl (more_tell x xs some all)
      | inr u ↦ inr (record { number = suc u.number; drive = u.drive; here = u.here; untold = u.untold })
    ]
  ]

  pub untold : (drives : List D) → (AllTell g drives → ⊥) → IsUntold g drives
  untold drives h = elim (tell_or_untold drives) [ inl all ↦ absurd (h all) | inr u ↦ u ]

  pub tell_before : (olds news : List D) → AreKept g olds news → AllTell g news → AllTell g olds
  tell_before olds news h all d old at =
      let new = there news d (omega (arith, get_below olds d old at, h.len)) in
      subst (λ (b : Bool). IsTrue b) (h.each d old new.0 at new.1).tells (all d new.0 new.1)

  pub image_read : (map_of : FileMap) (tables : List StoredTable) (us bs : List D) → AreRead g us bs → HoldImage g map_of tables us → HoldImage g map_of tables bs
  image_read map_of tables us bs h hold d b pages at told =
      let a = there us d (omega (arith, get_below bs d b at, h.len)) in
      let one = h.each d a.0 b a.1 at in
      let is = hold d a.0 pages a.1 (sym one.told ∙ told) in
      record { whole = is.whole ∙ sym one.size; stored = is.stored; indexes = is.indexes; others = λ address below out. is.others address (omega (arith, below, one.size)) out }

  -- a drive that was new has failed
  pub failed : (olds mids news : List D) (d : ℕ) → AllFresh g olds → AreKept g olds mids → IsFault g d mids news → HasFailed g d news
  failed olds mids news d fresh kept fault = record { drive = fault.new; here = fault.is; some = omega (arith, fault.rose) }

  -- ---- a database that is laid out

  module _ (checked : Checked) (db : List Table) (machine : Machine) (before now : ℕ) where
    pub lay_made : (goal : Goal) (olds mids : List D) (e : StoreErr) → length olds ≡ machine.drives → AllFresh g olds → AreKept g olds mids → LayoutCause g checked.catalog db olds mids e → Makes g (over goal machine checked db) before now mids (Err (of_store e))
    lay_made goal olds mids (store.DriveFault d) count fresh kept (tables, stored, lay) = (
      record { count = kept.len ∙ count; layout = record { tables = tables; stored = stored; map_of = lay.0; is = rw (← count) lay.1 }; room = lay.2 },
      record { drive = lay.3.new; here = lay.3.is; some = omega (arith, lay.3.rose) },
    )
    lay_made goal olds mids (store.DriveFull d needs capacity) count fresh kept (tables, stored, lay) =
        record { count = kept.len ∙ count; layout = record { tables = tables; stored = stored; map_of = lay.0; is = rw (← count) lay.1 }; full = lay.2; unwritten = subst (AllFresh g) (sym lay.3) fresh }
    lay_made goal olds mids store.NoMemory count fresh kept cause = tt

    module _ (olds mids news : List D) (laid : Laid) (count : length olds ≡ machine.drives) (fresh : AllFresh g olds) (kept : AreKept g olds mids) (out : IsLaidOut g checked.catalog db olds mids laid) (read : AreRead g mids news) where
      abbrev pub is_fit : Fit g checked.catalog db machine.drives news
      is_fit = record {
        count = read.len ∙ (kept.len ∙ count);
        layout = record { tables = out.tables; stored = out.stored; map_of = laid.map; is = rw (← count) out.are.of };
        room = room_read g laid.map mids news read out.room;
      }

      pub tell_mids : AllTell g news → TellTables g laid db mids
      tell_mids all = out.tell (tell_before olds news (kept_trans g olds mids news kept (kept_reading g mids news read)) all)

      -- a page that was read is bad, and its drive doesn't tell it
      bad_read : (bad : BadPage) (is : IsBadPage g laid checked.catalog mids bad) → ((drive : D) → slice_get mids (drive_of laid.map bad.page) ≡ Some drive → g.pages drive ≡ None) →
          ((drive : D) → slice_get mids (drive_of laid.map bad.page) ≡ Some drive → (1 ≤ bad.rule) × (bad.rule ≤ 9)) → is.place < length out.tables → bad.file ≡ file_number out.tables is.place →
          ReadsBad g (over Answers machine checked db) bad news
      bad_read bad is untold ruled within file =
          let low : drive_of laid.map bad.page < length mids = omega (arith, mod_below bad.page laid.map.drives out.are.of.is_map.some, out.are.of.drives_are, kept.len) in
          let mid = there mids (drive_of laid.map bad.page) low in
          let new = there news (drive_of laid.map bad.page) (omega (arith, low, read.len)) in
          let told = (read.each (drive_of laid.map bad.page) mid.0 new.0 mid.1 new.1).told in
          (is_fit, record { table = is.place; within = within; file = file; page = is.page; rule = ruled mid.0 mid.1; drive = new.0; here = new.1; untold = told ∙ untold mid.0 mid.1 })

      pub read_made : (may : MayStore checked.catalog db) (accepted : PagesAccepted) (again : PagesAgain) (e : FetchErr) → ReadCause g laid checked.catalog mids news e → Makes g (over Answers machine checked db) before now news (Err (of_fetch e))
      read_made may accepted again (fetch.DriveFault d) cause = (is_fit, record { drive = cause.new; here = cause.is; some = omega (arith, cause.rose) })
      read_made may accepted again (fetch.BadPage bad) cause =
          bad_read bad cause (untold_page accepted again g checked.catalog db olds mids laid may fresh out bad cause) (rule_is accepted again g checked.catalog db olds mids laid may fresh out bad cause)
          (within accepted again g checked.catalog db olds mids laid may fresh out bad cause) (file_is accepted again g checked.catalog db olds mids laid may fresh out bad cause)
      read_made may accepted again fetch.NoMemory cause = tt

      -- answers over the tables that were read, which are those that were laid where all drives tell
      pub answers_made : (found : List Table) (text : Result (Vec ℕ) Status) → (TellTables g laid db mids → found ≡ db) → Answered checked found text → Makes g (over Answers machine checked db) before now news text
      answers_made found (Ok text) again is =
          ((is_fit, image_read laid.map out.tables mids news read (out.image fresh)), λ all. subst (λ (tables : List Table). IsAnswered checked tables text.items) (again (tell_mids all)) is)
      answers_made found (Err (TooLarge number)) again is =
          ((is_fit, image_read laid.map out.tables mids news read (out.image fresh)), λ all. subst (λ (tables : List Table). IsLarge checked tables number) (again (tell_mids all)) is)
      answers_made found (Err NoMemory) again is = tt
      answers_made found (Err Done) again is = absurd is
      answers_made found (Err Usage) again is = absurd is
      answers_made found (Err (Refused r)) again is = absurd is
      answers_made found (Err ShelfFault) again is = absurd is
      answers_made found (Err (DriveFault d)) again is = absurd is
      answers_made found (Err (Bad bad)) again is = absurd is
      answers_made found (Err SinkFault) again is = absurd is
      answers_made found (Err (DriveFull d needs capacity)) again is = absurd is
      answers_made found (Err (NotBuilt what)) again is = absurd is

front : {X : Type 0} (xs rest : List X) → take (length xs) (xs ++ rest) ≡ xs
front [] rest = refl
front {X} (x ∷ xs) rest = ap (λ (ys : List X). x ∷ ys) (front xs rest)

-- what is written back of a slice that is the whole
pub whole_slice : {X : Type 0} (n : ℕ) (xs rest : List X) → n ≡ length xs → take n (xs ++ rest) ≡ xs
whole_slice n xs rest e = rw e (front xs rest)
