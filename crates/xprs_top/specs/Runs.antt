-- What a run answers, and what shows each answer.
use Rattle.std.specs.Prelude.{◌≡◌, ◌⊎◌, ℕ, List, [], Option, Some, None, Result, Ok, Err, ⊤}
use Rattle.std.specs.Global.{Vec}
use Rattle.xp_outside.specs.Outside.{Rose, appended, AppendsFront}
use Rattle.xp_outside.specs.declared.drive.Drive.{Ghosts}
use Rattle.xp_outside.specs.declared.drive.Rack as rack
use Rattle.xp_outside.specs.declared.shelf.Shelf as shelf
use Rattle.xp_outside.specs.declared.sink.Sink as sink
use Rattle.table_store.specs.Readings.{AllTell}
use Rattle.xprs_top.specs.declared.goal.Aim.{Aim}
use Rattle.xprs_top.specs.declared.goal.Aim.TheVariants.{Print, Make}
use Rattle.xprs_top.specs.declared.status.Status.{Status}
use Rattle.xprs_top.specs.declared.status.Status.TheVariants.{Done, Usage, Refused, ShelfFault, DriveFault, Bad, SinkFault, NoMemory, DriveFull, NotBuilt, TooLarge}
use Rattle.xprs_top.specs.Devices.{Exceeds, Fits, HasFailed, Holds, IsRoomy, NoneFailed, NoneOrAll, ReadsBad}
use Rattle.xprs_top.specs.Faults.{fault_line}
use Rattle.xprs_top.specs.Inputs.{OnFiles}
use Rattle.xprs_top.specs.Readings.{Files, IsJob, Job}
use Rattle.xprs_top.specs.Requests.{Form, Request, drives_for}
use Rattle.xprs_top.specs.Texts.{IsText, IsTooLarge}

-- the words ask for something, and where the shelf tells its files they give this job
abbrev pub Asks : Option Files → Form → Job → Type 0
Asks told (Err status) job = ⊥
Asks told (Ok request) job = OnFiles told (λ files. IsJob files request (Ok job))

-- the words ask for something, and where the shelf tells its files they have this fault
abbrev pub Faulty : Option Files → Form → Status → Type 0
Faulty told (Err other) status = ⊥
Faulty told (Ok request) status = OnFiles told (λ files. IsJob files request (Err status))

-- what can be seen of a run from outside: the files that the shelf tells, the counts of faults of the shelf, of the rack
-- and of the output before and after, and what the output had got before and after
pub record Outside : Type 0 where
  pub files : Option Files
  pub shelf_before : ℕ
  pub shelf_now : ℕ
  pub rack_before : ℕ
  pub rack_now : ℕ
  pub out_before : ℕ
  pub out_now : ℕ
  pub old : Option (List ℕ)
  pub new : Option (List ℕ)

-- the same of a shelf, a rack and an output before and after
abbrev pub seen : {S K D W : Type 0} → shelf.Ghosts S → rack.Ghosts K D → sink.Ghosts W → S → S → K → K → W → W → Outside
seen g h k shelf_old shelf_new rack_old rack_new out_old out_new =
    record {
      files = g.files shelf_old;
      shelf_before = g.faults shelf_old;
      shelf_now = g.faults shelf_new;
      rack_before = h.faults rack_old;
      rack_now = h.faults rack_new;
      out_before = k.faults out_old;
      out_now = k.faults out_new;
      old = k.written out_old;
      new = k.written out_new;
    }

-- the words ask for a script in its printed form
abbrev pub IsCheck : Aim → Type 0
IsCheck Print = ⊤
IsCheck (Make goal machine) = ⊥

abbrev pub AsksCheck : Form → Type 0
AsksCheck (Err status) = ⊥
AsksCheck (Ok request) = IsCheck request.aim

-- no drives, or all that the words ask for
abbrev pub IsCount : Form → ℕ → Type 0
IsCount (Err status) n = n ≡ 0
IsCount (Ok request) n = NoneOrAll (drives_for request.aim) n

-- a status that comes before drives are mounted
abbrev pub IsEarly : Status → Type 0
IsEarly Usage = ⊤
IsEarly (Refused r) = ⊤
IsEarly ShelfFault = ⊤
IsEarly (NotBuilt what) = ⊤
IsEarly other = ⊥

-- a text that was made is written, or the output has failed and got a front of it
abbrev pub Poured : Option (List ℕ) → Option (List ℕ) → ℕ → ℕ → Result (Vec ℕ) Status → Status → Type 0
Poured old new before now (Ok text) Done = new ≡ appended old text.items
Poured old new before now (Ok text) SinkFault = Rose before now × AppendsFront old new text.items
Poured old new before now (Ok text) other = ⊥
Poured old new before now (Err e) status = (status ≡ e) × (new ≡ old)

-- the status's line, or a front of it where the sink has failed
abbrev pub Tells : Option (List ℕ) → Option (List ℕ) → ℕ → ℕ → Status → Type 0
Tells old new before now status = (new ≡ appended old (fault_line status)) ⊎ (Rose before now × AppendsFront old new (fault_line status))

abbrev pub IsDoneOrNoMemory : Status → Type 0
IsDoneOrNoMemory Done = Unit {0}
IsDoneOrNoMemory NoMemory = Unit {0}
IsDoneOrNoMemory other = ⊥

abbrev pub IsThisOrShelfFaultOrNoMemory : Status → Status → Type 0
IsThisOrShelfFaultOrNoMemory fault ShelfFault = Unit {0}
IsThisOrShelfFaultOrNoMemory fault NoMemory = Unit {0}
IsThisOrShelfFaultOrNoMemory fault status = status ≡ fault

-- words that ask for nothing have their status, or memory is wanting
abbrev pub IsTurnedAway : Status → Status → Type 0
IsTurnedAway wanted NoMemory = Unit {0}
IsTurnedAway wanted status = status ≡ wanted

-- over told files that have a fault, the run answers that fault, unless the shelf fails or memory is wanting
abbrev pub Refuses : Form → Outside → Status → Type 0
Refuses form o status = (request : Request) (files : Files) (fault : Status) → form ≡ Ok request → o.files ≡ Some files → IsJob files request (Err fault) →
    IsThisOrShelfFaultOrNoMemory fault status

-- no statement of the job is too large
abbrev pub NoneTooLarge : Job → Type 0
NoneTooLarge job = (number : ℕ) → IsTooLarge job number → ⊥

module _ {D : Type 0} (g : Ghosts D) where
  -- what shows each status, the drives that are handed back, and what the output got
  abbrev pub Caused : Form → Outside → List D → Status → Type 0
  Caused form o drives Done = (job : Job) × Asks o.files form job × Holds g job drives × (AllTell g drives → (text : List ℕ) × IsText job text × (o.new ≡ appended o.old text))
  Caused form o drives Usage = (form ≡ Err Usage) × (drives ≡ []) × (o.new ≡ o.old)
  Caused form o drives (Refused r) = Faulty o.files form (Refused r) × (drives ≡ []) × (o.new ≡ o.old)
  Caused form o drives ShelfFault = Rose o.shelf_before o.shelf_now × (drives ≡ []) × (o.new ≡ o.old)
  Caused form o drives (DriveFault None) = (job : Job) × Asks o.files form job × Rose o.rack_before o.rack_now × (drives ≡ []) × (o.new ≡ o.old)
  Caused form o drives (DriveFault (Some d)) = (job : Job) × Asks o.files form job × Fits g job drives × HasFailed g d drives × (o.new ≡ o.old)
  Caused form o drives (Bad bad) = (job : Job) × Asks o.files form job × ReadsBad g job bad drives × (o.new ≡ o.old)
  Caused form o drives SinkFault = (job : Job) × Rose o.out_before o.out_now × Asks o.files form job × Holds g job drives × (AllTell g drives → (text : List ℕ) × IsText job text × AppendsFront o.old o.new text)
  Caused form o drives NoMemory = o.new ≡ o.old
  Caused form o drives (DriveFull d needs capacity) = (job : Job) × Asks o.files form job × Exceeds g job d needs capacity drives × (o.new ≡ o.old)
  Caused form o drives (NotBuilt what) = (form ≡ Err (NotBuilt what)) × (drives ≡ []) × (o.new ≡ o.old)
  Caused form o drives (TooLarge number) = (job : Job) × Asks o.files form job × Holds g job drives × (AllTell g drives → IsTooLarge job number) × (o.new ≡ o.old)

  -- over told files that give a job none of whose statements is too large, drives that all tell, none of which has failed and each with
  -- room for the tables, and with no fault of the shelf, the rack or the output, the run is done or lacks memory
  abbrev pub Completes : Form → Outside → List D → Status → Type 0
  Completes form o drives status = (request : Request) (files : Files) (job : Job) → form ≡ Ok request → o.files ≡ Some files → IsJob files request (Ok job) →
      AllTell g drives → NoneFailed g drives → IsRoomy g job drives → NoneTooLarge job →
      (Rose o.shelf_before o.shelf_now → ⊥) → (Rose o.rack_before o.rack_now → ⊥) → (Rose o.out_before o.out_now → ⊥) → IsDoneOrNoMemory status
