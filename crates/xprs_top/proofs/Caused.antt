-- What a run shows of a task that was done.
use Rattle.std.proofs.Common.{◌≡◌, ℕ, List, [], Option, Some, None, Result, Ok, Err, IfErr, sym, subst}
use Rattle.std.specs.Global.{Vec}
use Rattle.xp_outside.specs.declared.drive.Drive.{Ghosts}
use Rattle.xprs_top.specs.declared.status.Status.{Status}
use Rattle.xprs_top.specs.declared.status.Status.TheVariants.{Done, Usage, Refused, ShelfFault, DriveFault, Bad, SinkFault, NoMemory, DriveFull, NotBuilt, TooLarge}
use Rattle.xprs_top.specs.Devices.{Makes}
use Rattle.xprs_top.specs.Inputs.{Shows}
use Rattle.xprs_top.specs.Readings.{IsJob, Job}
use Rattle.xprs_top.specs.Runs.{Asks, Caused, IsEarly, IsTurnedAway, Outside, Poured}
use Rattle.xprs_top.specs.Requests.{Form, IsAsked, Request}

err_same : (a b : Status) → ◌≡◌ {A = Form} (Err a) (Err b) → b ≡ a
err_same a b e = cc

ok_err : (a : Request) (b : Status) → ◌≡◌ {A = Form} (Ok a) (Err b) → ⊥
ok_err a b e = cc

-- words that ask for nothing have their status
pub turned_away : (form : Form) (status : Status) → IsAsked form (Err status) →
    IfErr form (λ wanted. IsTurnedAway wanted status)
turned_away (Ok request) status asked = tt
turned_away (Err wanted) Usage asked = err_same wanted Usage asked
turned_away (Err wanted) (NotBuilt what) asked = err_same wanted (NotBuilt what) asked
turned_away (Err wanted) NoMemory asked = tt
turned_away (Err wanted) Done asked = absurd asked
turned_away (Err wanted) (Refused r) asked = absurd asked
turned_away (Err wanted) ShelfFault asked = absurd asked
turned_away (Err wanted) (DriveFault d) asked = absurd asked
turned_away (Err wanted) (Bad bad) asked = absurd asked
turned_away (Err wanted) SinkFault asked = absurd asked
turned_away (Err wanted) (DriveFull d needs capacity) asked = absurd asked
turned_away (Err wanted) (TooLarge number) asked = absurd asked

module _ {D : Type 0} (g : Ghosts D) where
  -- a run that ended before drives were mounted
  pub caused_early : (o : Outside) (request : Request) (drives : List D) (status : Status) → Shows o.files o.shelf_before o.shelf_now status (λ files. IsJob files request) → drives ≡ [] → o.new ≡ o.old →
      Caused g (Ok request) o drives status
  caused_early o request drives Done shows none same = absurd shows
  caused_early o request drives Usage shows none same = absurd shows
  caused_early o request drives (Refused r) shows none same = (shows, none, same)
  caused_early o request drives ShelfFault shows none same = (shows, none, same)
  caused_early o request drives (DriveFault d) shows none same = absurd shows
  caused_early o request drives (Bad bad) shows none same = absurd shows
  caused_early o request drives SinkFault shows none same = absurd shows
  caused_early o request drives NoMemory shows none same = same
  caused_early o request drives (DriveFull d needs capacity) shows none same = absurd shows
  caused_early o request drives (NotBuilt what) shows none same = absurd shows
  caused_early o request drives (TooLarge number) shows none same = absurd shows

  -- words that ask for nothing
  pub caused_words : (o : Outside) (form : Form) (drives : List D) (status : Status) →
      IsAsked form (Err status) → drives ≡ [] → o.new ≡ o.old → Caused g form o drives status
  caused_words o form drives Usage asked none same = (asked, none, same)
  caused_words o form drives (NotBuilt what) asked none same = (asked, none, same)
  caused_words o form drives NoMemory asked none same = same
  caused_words o form drives Done asked none same = absurd asked
  caused_words o form drives (Refused r) asked none same = absurd asked
  caused_words o form drives ShelfFault asked none same = absurd asked
  caused_words o form drives (DriveFault d) asked none same = absurd asked
  caused_words o form drives (Bad bad) asked none same = absurd asked
  caused_words o form drives SinkFault asked none same = absurd asked
  caused_words o form drives (DriveFull d needs capacity) asked none same = absurd asked
  caused_words o form drives (TooLarge number) asked none same = absurd asked

  module _ (o : Outside) (form : Form) (job : Job) (drives : List D) (asks : Asks o.files form job) where
    caused_err : (e : Status) → Makes g job o.rack_before o.rack_now drives (Err e) → o.new ≡ o.old → Caused g form o drives e
    caused_err Done made same = absurd made
    caused_err Usage made same = absurd made
    caused_err (Refused r) made same = absurd made
    caused_err ShelfFault made same = absurd made
    caused_err (DriveFault None) made same = (job, asks, made.0, made.1, same)
    caused_err (DriveFault (Some d)) made same = (job, asks, made.0, made.1, same)
    caused_err (Bad bad) made same = (job, asks, made, same)
    caused_err SinkFault made same = absurd made
    caused_err NoMemory made same = same
    caused_err (DriveFull d needs capacity) made same = (job, asks, made, same)
    caused_err (NotBuilt what) made same = absurd made
    caused_err (TooLarge number) made same = (job, asks, made.0, made.1, same)

    caused_ok : (text : Vec ℕ) (status : Status) → Makes g job o.rack_before o.rack_now drives (Ok text) → Poured o.old o.new o.out_before o.out_now (Ok text) status → Caused g form o drives status
    caused_ok text Done made wrote = (job, asks, made.0, λ all. (text.items, made.1 all, wrote))
    caused_ok text Usage made wrote = absurd wrote
    caused_ok text (Refused r) made wrote = absurd wrote
    caused_ok text ShelfFault made wrote = absurd wrote
    caused_ok text (DriveFault d) made wrote = absurd wrote
    caused_ok text (Bad bad) made wrote = absurd wrote
    caused_ok text SinkFault made wrote = (job, wrote.0, asks, made.0, λ all. (text.items, made.1 all, wrote.1))
    caused_ok text NoMemory made wrote = absurd wrote
    caused_ok text (DriveFull d needs capacity) made wrote = absurd wrote
    caused_ok text (NotBuilt what) made wrote = absurd wrote
    caused_ok text (TooLarge number) made wrote = absurd wrote

    pub caused_made : (text : Result (Vec ℕ) Status) (status : Status) → Makes g job o.rack_before o.rack_now drives text → Poured o.old o.new o.out_before o.out_now text status → Caused g form o drives status
    caused_made (Ok text) status made wrote = caused_ok text status made wrote
    caused_made (Err e) status made wrote = subst (Caused g form o drives) (sym wrote.0) (caused_err e made wrote.1)

  -- once drives were asked for, no early status comes
  late_err : (job : Job) (before now : ℕ) (drives : List D) (e : Status) → Makes g job before now drives (Err e) → IsEarly e → ⊥
  late_err job before now drives Usage made early = made
  late_err job before now drives (Refused r) made early = made
  late_err job before now drives ShelfFault made early = made
  late_err job before now drives (NotBuilt what) made early = made
  late_err job before now drives Done made early = early
  late_err job before now drives (DriveFault d) made early = early
  late_err job before now drives (Bad bad) made early = early
  late_err job before now drives SinkFault made early = early
  late_err job before now drives NoMemory made early = early
  late_err job before now drives (DriveFull d needs capacity) made early = early
  late_err job before now drives (TooLarge number) made early = early

  late_ok : (old new : Option (List ℕ)) (before now : ℕ) (text : Vec ℕ) (status : Status) → Poured old new before now (Ok text) status → IsEarly status → ⊥
  late_ok old new before now text Usage wrote early = wrote
  late_ok old new before now text (Refused r) wrote early = wrote
  late_ok old new before now text ShelfFault wrote early = wrote
  late_ok old new before now text (NotBuilt what) wrote early = wrote
  late_ok old new before now text Done wrote early = early
  late_ok old new before now text (DriveFault d) wrote early = early
  late_ok old new before now text (Bad bad) wrote early = early
  late_ok old new before now text SinkFault wrote early = early
  late_ok old new before now text NoMemory wrote early = early
  late_ok old new before now text (DriveFull d needs capacity) wrote early = early
  late_ok old new before now text (TooLarge number) wrote early = early

  pub not_early : (job : Job) (rb rn : ℕ) (drives : List D) (old new : Option (List ℕ)) (ob on : ℕ) (text : Result (Vec ℕ) Status) (status : Status) → Makes g job rb rn drives text → Poured old new ob on text status → IsEarly status → ⊥
  not_early job rb rn drives old new ob on (Ok text) status made wrote early = late_ok old new ob on text status wrote early
  not_early job rb rn drives old new ob on (Err e) status made wrote early = late_err job rb rn drives e made (subst IsEarly wrote.0 early)
