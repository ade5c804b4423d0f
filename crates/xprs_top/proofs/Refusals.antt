-- Told files that give a job are answered, and so is a fault of theirs.
use Rattle.std.proofs.Common.{◌≡◌, ℕ, List, true≢false, Option, Some, None, Ok, Err, Result, sym, subst, ◌∙◌, arith}
use Rattle.std.specs.Prelude.{is_some, IsTrue}
use Rattle.xp_outside.specs.declared.drive.Drive.{Ghosts}
use Rattle.table_store.specs.Readings.{AllTell}
use Rattle.xprs_top.specs.declared.status.Status.{Status}
use Rattle.xprs_top.specs.declared.status.Status.TheVariants.{Done, Usage, Refused, ShelfFault, DriveFault, Bad, SinkFault, NoMemory, DriveFull, NotBuilt, TooLarge}
use Rattle.heap_page.specs.declared.errors.BadPage.{BadPage}
use Rattle.heap_page.specs.Maps.{drive_of}
use Rattle.xprs_top.specs.declared.goal.Goal.TheVariants.{Answers, Plans}
use Rattle.xprs_top.specs.Devices.{Exceeds, IsRoomy, IsUntold, ReadsBad}
use Rattle.xprs_top.specs.Readings.{Files, IsJob, Job, write, over}
use Rattle.xprs_top.specs.Runs.{Asks, Caused, Completes, Faulty, Outside, Refuses}
use Rattle.xprs_top.specs.Requests.{Form, Request}
use Rattle.xprs_top.specs.Texts.{IsTooLarge}
use Rattle.xprs_top.proofs.OneJob.{one_job}

abbrev Found : Type 0
Found = Result Job Status

-- what is shown of told files is what they are read as
at_files : (told : Option Files) (form : Form) (request : Request) (files : Files) (P : Option Files → Form → Type 0) → form ≡ Ok request → told ≡ Some files → P told form → P (Some files) (Ok request)
at_files told form request files P e f h = subst (λ t. P t (Ok request)) f (subst (P told) e h)

faulty_is : (told : Option Files) (form : Form) (status : Status) (request : Request) (files : Files) (found : Found) → form ≡ Ok request → told ≡ Some files → IsJob files request found → Faulty told form status →
    ◌≡◌ {A = Found} found (Err status)
faulty_is told form status request files found e f k h = one_job files request found (Err status) k (at_files told form request files (λ t r. Faulty t r status) e f h)

asks_is : (told : Option Files) (form : Form) (job : Job) (request : Request) (files : Files) (found : Found) → form ≡ Ok request → told ≡ Some files → IsJob files request found → Asks told form job →
    ◌≡◌ {A = Found} found (Ok job)
asks_is told form job request files found e f k h = one_job files request found (Ok job) k (at_files told form request files (λ t r. Asks t r job) e f h)

unasked : (request : Request) (status : Status) → ◌≡◌ {A = Form} (Ok request) (Err status) → ⊥
unasked request status e = cc

not_asked : (fault : Status) (job : Job) → ◌≡◌ {A = Found} (Err fault) (Ok job) → ⊥
not_asked fault job e = cc

same_fault : (fault status : Status) → ◌≡◌ {A = Found} (Err fault) (Err status) → status ≡ fault
same_fault fault status e = cc

no_fault : (job : Job) (status : Status) → ◌≡◌ {A = Found} (Ok job) (Err status) → ⊥
no_fault job status e = cc

same_job : (a b : Job) → ◌≡◌ {A = Found} (Ok a) (Ok b) → b ≡ a
same_job a b e = cc

module _ {D : Type 0} (g : Ghosts D) where
  pub refused : (form : Form) (o : Outside) (drives : List D) (status : Status) → Caused g form o drives status → Refuses form o status
  refused form o drives Done h request files fault e f k = absurd (not_asked fault h.0 (asks_is o.files form h.0 request files (Err fault) e f k h.1))
  refused form o drives Usage h request files fault e f k = absurd (unasked request Usage (sym e ∙ h.0))
  refused form o drives (Refused r) h request files fault e f k = same_fault fault (Refused r) (faulty_is o.files form (Refused r) request files (Err fault) e f k h.0)
  refused form o drives ShelfFault h request files fault e f k = tt
  refused form o drives (DriveFault None) h request files fault e f k = absurd (not_asked fault h.0 (asks_is o.files form h.0 request files (Err fault) e f k h.1))
  refused form o drives (DriveFault (Some d)) h request files fault e f k = absurd (not_asked fault h.0 (asks_is o.files form h.0 request files (Err fault) e f k h.1))
  refused form o drives (Bad bad) h request files fault e f k = absurd (not_asked fault h.0 (asks_is o.files form h.0 request files (Err fault) e f k h.1))
  refused form o drives SinkFault h request files fault e f k = absurd (not_asked fault h.0 (asks_is o.files form h.0 request files (Err fault) e f k h.2))
  refused form o drives NoMemory h request files fault e f k = tt
  refused form o drives (DriveFull d needs capacity) h request files fault e f k = absurd (not_asked fault h.0 (asks_is o.files form h.0 request files (Err fault) e f k h.1))
  refused form o drives (TooLarge number) h request files fault e f k = absurd (not_asked fault h.0 (asks_is o.files form h.0 request files (Err fault) e f k h.1))
  refused form o drives (NotBuilt what) h request files fault e f k = absurd (unasked request (NotBuilt what) (sym e ∙ h.0))

  not_untold : (drives : List D) → AllTell g drives → IsUntold g drives → ⊥
  not_untold drives all u = true≢false (sym (subst (λ (p : Option (List (List ℕ))). IsTrue (is_some p)) u.untold (all u.number u.drive u.here)))

  not_full : (job : Job) (d needs capacity : ℕ) (drives : List D) → IsRoomy g job drives → Exceeds g job d needs capacity drives → ⊥
  not_full (write text) d needs capacity drives roomy full = full
  not_full (over goal machine checked db) d needs capacity drives roomy full =
      let room = roomy full.layout d full.full.drive full.full.here in
      omega (arith, room, full.full.small, full.full.needs_is, full.full.capacity_is)

  -- where a page is bad some drive doesn't tell
  untold_of : (job : Job) (bad : BadPage) (drives : List D) → ReadsBad g job bad drives → IsUntold g drives
  untold_of (write text) bad drives h = absurd h
  untold_of (over Answers machine checked db) bad drives (fit, page) = record { number = drive_of fit.layout.map_of bad.page; drive = page.drive; here = page.here; untold = page.untold }
  untold_of (over (Plans m) machine checked db) bad drives (fit, page) = page.untold

  pub completed : (form : Form) (o : Outside) (drives : List D) (status : Status) → Caused g form o drives status → Completes g form o drives status
  completed form o drives Done h request files job e f k all none roomy small s r w = tt
  completed form o drives Usage h request files job e f k all none roomy small s r w = unasked request Usage (sym e ∙ h.0)
  completed form o drives (Refused x) h request files job e f k all none roomy small s r w = no_fault job (Refused x) (faulty_is o.files form (Refused x) request files (Ok job) e f k h.0)
  completed form o drives ShelfFault h request files job e f k all none roomy small s r w = s h.0
  completed form o drives (DriveFault None) h request files job e f k all none roomy small s r w = r h.2
  completed form o drives (DriveFault (Some d)) h request files job e f k all none roomy small s r w = none d h.3
  completed form o drives (Bad bad) h request files job e f k all none roomy small s r w = not_untold drives all (untold_of h.0 bad drives h.2)
  completed form o drives SinkFault h request files job e f k all none roomy small s r w = w h.1
  completed form o drives NoMemory h request files job e f k all none roomy small s r w = tt
  completed form o drives (DriveFull d needs capacity) h request files job e f k all none roomy small s r w =
      not_full job d needs capacity drives roomy (subst (λ (j : Job). Exceeds g j d needs capacity drives) (same_job job h.0 (asks_is o.files form h.0 request files (Ok job) e f k h.1)) h.2)
  completed form o drives (TooLarge number) h request files job e f k all none roomy small s r w =
      small number (subst (λ (j : Job). IsTooLarge j number) (same_job job h.0 (asks_is o.files form h.0 request files (Ok job) e f k h.1)) (h.3 all))
  completed form o drives (NotBuilt what) h request files job e f k all none roomy small s r w = unasked request (NotBuilt what) (sym e ∙ h.0)
