-- Drives that have not failed.
use Rattle.std.proofs.Common.{◌≡◌, ℕ, List, Option, None, Result, Ok, Err, length, refl, sym, ap, ◌∙◌, arith, subst}
use Rattle.heap_page.specs.declared.errors.StoreErr.{StoreErr}
use Rattle.heap_page.specs.declared.errors.StoreErr.TheVariants as store
use Rattle.heap_page.specs.declared.errors.FetchErr.{FetchErr}
use Rattle.heap_page.specs.declared.errors.FetchErr.TheVariants as fetch
use Rattle.heap_page.specs.Stores.{AreQuiet, fetch_fault, store_fault}
use Rattle.heap_page.proofs.Found.{get_below, there}
use Rattle.xp_outside.specs.declared.drive.Drive.{Ghosts}
use Rattle.xp_outside.specs.Drives.{IsFresh}
use Rattle.query_planner.specs.declared.planning.PlansAndStats.{PlansAndStats}
use Rattle.table_store.specs.declared.database.Laid.{Laid}
use Rattle.rel_meaning.specs.declared.query.Table.{Table}
use Rattle.rows.specs.declared.plain.Machine.{Machine}
use Rattle.std.specs.Global.{Vec}
use Rattle.table_store.specs.Databases.{AllFresh}
use Rattle.table_store.proofs.Filed.{all_at}
use Rattle.xprs_top.specs.declared.status.Status.{Status}
use Rattle.xprs_top.specs.declared.status.Status.TheVariants.{Done, Usage, Refused, ShelfFault, DriveFault, Bad, SinkFault, DriveFull, NotBuilt, NoMemory, TooLarge}
use Rattle.xprs_top.specs.Counts.{NoOtherFailed, failed_drive, named_drive}
use Rattle.xprs_top.specs.Statuses.{of_fetch, of_store}
use Rattle.xprs_top.specs.Readings.{Checked}
use Rattle.xprs_top.specs.Texts.{Answered, Explains}

-- the drive that a status names is the one that the error names
pub named_store : (e : StoreErr) → named_drive (of_store e) ≡ store_fault {T = ℕ} (Err e)
named_store (store.DriveFault d) = refl
named_store (store.DriveFull d needs capacity) = refl
named_store store.NoMemory = refl

pub named_fetch : (e : FetchErr) → named_drive (of_fetch e) ≡ fetch_fault {T = ℕ} (Err e)
named_fetch (fetch.DriveFault d) = refl
named_fetch (fetch.BadPage bad) = refl
named_fetch fetch.NoMemory = refl

-- answers name no drive
pub named_answers : (checked : Checked) (db : List Table) (text : Result (Vec ℕ) Status) → Answered checked db text → failed_drive text ≡ None
named_answers checked db (Ok text) is = refl
named_answers checked db (Err (TooLarge number)) is = refl
named_answers checked db (Err NoMemory) is = refl
named_answers checked db (Err Done) is = absurd is
named_answers checked db (Err Usage) is = absurd is
named_answers checked db (Err (Refused r)) is = absurd is
named_answers checked db (Err ShelfFault) is = absurd is
named_answers checked db (Err (DriveFault d)) is = absurd is
named_answers checked db (Err (Bad bad)) is = absurd is
named_answers checked db (Err SinkFault) is = absurd is
named_answers checked db (Err (DriveFull d needs capacity)) is = absurd is
named_answers checked db (Err (NotBuilt what)) is = absurd is

-- a text of plans names the drive whose read has failed
pub named_plans : (checked : Checked) (laid : Laid) (machine : Machine) (plans : Result PlansAndStats FetchErr) (text : Result (Vec ℕ) Status) → Explains checked laid machine plans text → failed_drive text ≡ fetch_fault plans
named_plans checked laid machine (Ok ps) (Ok text) shows = refl
named_plans checked laid machine (Ok ps) (Err NoMemory) shows = refl
named_plans checked laid machine (Ok ps) (Err Done) shows = absurd shows
named_plans checked laid machine (Ok ps) (Err Usage) shows = absurd shows
named_plans checked laid machine (Ok ps) (Err (Refused r)) shows = absurd shows
named_plans checked laid machine (Ok ps) (Err ShelfFault) shows = absurd shows
named_plans checked laid machine (Ok ps) (Err (DriveFault d)) shows = absurd shows
named_plans checked laid machine (Ok ps) (Err (Bad bad)) shows = absurd shows
named_plans checked laid machine (Ok ps) (Err SinkFault) shows = absurd shows
named_plans checked laid machine (Ok ps) (Err (DriveFull d needs capacity)) shows = absurd shows
named_plans checked laid machine (Ok ps) (Err (NotBuilt what)) shows = absurd shows
named_plans checked laid machine (Ok ps) (Err (TooLarge number)) shows = absurd shows
named_plans checked laid machine (Err e) text shows = ap failed_drive shows ∙ named_fetch e ∙ same e where
  same : (e : FetchErr) → fetch_fault {T = ℕ} (Err e) ≡ fetch_fault {T = PlansAndStats} (Err e)
  same (fetch.DriveFault d) = refl
  same (fetch.BadPage bad) = refl
  same fetch.NoMemory = refl

module _ {D : Type 0} (g : Ghosts D) where
  -- new drives whose counts stand have not failed
  pub fresh_stay : (fault : Option ℕ) (us cs : List D) → length cs ≡ length us → AllFresh g us → AreQuiet g fault us cs → NoOtherFailed g fault cs
  fresh_stay fault us cs long fresh quiet d c other at =
      let a = there us d (omega (arith, get_below cs d c at, long)) in
      quiet.each d a.0 c other a.1 at ∙ (all_at (λ (u : D). IsFresh (g.pages u) (g.faults u) (g.size u)) us d a.0 fresh a.1).none

  -- where none has failed, none but one has
  pub none_at_all : (fault : Option ℕ) (ds : List D) → NoOtherFailed g None ds → NoOtherFailed g fault ds
  none_at_all fault ds none d drive other at = none d drive (λ e. absurd cc) at

  pub named_by : (status : Status) (fault : Option ℕ) (ds : List D) → named_drive status ≡ fault → NoOtherFailed g fault ds → NoOtherFailed g (named_drive status) ds
  named_by status fault ds e h = subst (λ (f : Option ℕ). NoOtherFailed g f ds) (sym e) h
