-- What a function tells of the files that it read.
use Rattle.std.specs.Prelude.{◌≡◌, ℕ, List, map, Option, Some, None, Result, Ok, Err}
use Rattle.rows.specs.declared.plain.Relation.{Relation}
use Rattle.rel_meaning.specs.Expression.{question_of}
use Rattle.postquel.specs.Program.{Parts, program_of}
use Rattle.postquel_tokens.specs.declared.fault.TextErr.{TextErr}
use Rattle.postquel_tokens.specs.declared.fault.TextErr.TheVariants as text_err
use Rattle.catalog_load.specs.declared.fault.LoadErr.{LoadErr}
use Rattle.catalog_load.specs.declared.fault.LoadErr.TheVariants as load_err
use Rattle.xp_outside.specs.Outside.{Rose}
use Rattle.xprs_top.specs.declared.status.Status.{Status}
use Rattle.xprs_top.specs.declared.status.Status.TheVariants.{Done, Usage, Refused, ShelfFault, DriveFault, Bad, SinkFault, NoMemory, DriveFull, NotBuilt, TooLarge}
use Rattle.xprs_top.specs.declared.status.Refused.TheVariants.{Missing, TooLong, Script, Table}
use Rattle.xprs_top.specs.declared.script.ReadScript.{ReadScript}
use Rattle.xprs_top.specs.declared.input.Checked.{Checked as Input}
use Rattle.xprs_top.specs.declared.task.Task.{Task}
use Rattle.xprs_top.specs.declared.task.Task.TheVariants.{Print, Over}
use Rattle.xprs_top.specs.declared.refusal.Naming.{Naming}
use Rattle.xprs_top.specs.declared.refusal.Naming.TheVariants as naming
use Rattle.xprs_top.specs.Readings.{Checked, Files, IsProgram, Job, write, over}

-- a script that was read over a catalogue
abbrev pub checked_of : List Relation → ReadScript → Checked
checked_of catalog read = record { catalog = catalog; program = program_of read.script; steps = read.steps; questions = map question_of read.queries }

abbrev pub read_of : Input → Checked
read_of input = checked_of input.catalog input.read

abbrev pub job_of : Task → Job
job_of (Print text) = write text.items
job_of (Over goal machine checked db) = over goal machine (read_of checked) db

-- a fact about the files, where the shelf tells them
abbrev pub OnFiles : Option Files → (Files → Type 0) → Type 0
OnFiles None P = Unit {0}
OnFiles (Some files) P = P files

-- what shows a status: a refusal what is read, a fault of the shelf its count
abbrev pub Shows : {A : Type 0} → Option Files → ℕ → ℕ → Status → (Files → Result A Status → Type 0) → Type 0
Shows told before now Done read = ⊥
Shows told before now Usage read = ⊥
Shows told before now (Refused r) read = OnFiles told (λ files. read files (Err (Refused r)))
Shows told before now ShelfFault read = Rose before now
Shows told before now (DriveFault d) read = ⊥
Shows told before now (Bad bad) read = ⊥
Shows told before now SinkFault read = ⊥
Shows told before now NoMemory read = Unit {0}
Shows told before now (DriveFull d needs capacity) read = ⊥
Shows told before now (NotBuilt what) read = ⊥
Shows told before now (TooLarge statement) read = ⊥

-- what was read is what the files are read as
abbrev pub Told : {X A : Type 0} → Option Files → ℕ → ℕ → (X → A) → Result X Status → (Files → Result A Status → Type 0) → Type 0
Told told before now view (Ok x) read = OnFiles told (λ files. read files (Ok (view x)))
Told told before now view (Err status) read = Shows told before now status read

-- what shows a status where no file is fetched
abbrev pub Refuses : {A : Type 0} → Status → (Result A Status → Type 0) → Type 0
Refuses Done read = ⊥
Refuses Usage read = ⊥
Refuses (Refused r) read = read (Err (Refused r))
Refuses ShelfFault read = ⊥
Refuses (DriveFault d) read = ⊥
Refuses (Bad bad) read = ⊥
Refuses SinkFault read = ⊥
Refuses NoMemory read = Unit {0}
Refuses (DriveFull d needs capacity) read = ⊥
Refuses (NotBuilt what) read = ⊥
Refuses (TooLarge statement) read = ⊥

-- what was found is what is read
abbrev pub Finds : {X A : Type 0} → (X → A) → Result X Status → (Result A Status → Type 0) → Type 0
Finds view (Ok x) read = read (Ok (view x))
Finds view (Err status) read = Refuses status read

-- a script that was read is the one that the text is
abbrev pub IsParsed : List ℕ → Result Parts TextErr → Type 0
IsParsed text (Ok script) = IsProgram text (Ok (program_of script))
IsParsed text (Err (text_err.Fault line col what)) = IsProgram text (Err (what, record { line = line; col = col }))
IsParsed text (Err text_err.NoMemory) = Unit {0}

abbrev pub named : Naming → List ℕ → Status
named naming.Missing name = Refused (Missing name)
named naming.TooLong name = Refused (TooLong name)

-- the status that names the file so, or want of memory
abbrev pub IsNaming : Naming → List ℕ → Status → Type 0
IsNaming which name NoMemory = Unit {0}
IsNaming which name status = status ≡ named which name

-- the status that refuses a text for its fault, or want of memory
abbrev pub RefusesText : List ℕ → TextErr → Status → Type 0
RefusesText name fault NoMemory = Unit {0}
RefusesText name (text_err.Fault line col what) status = status ≡ Refused (Script name line col what)
RefusesText name text_err.NoMemory status = ⊥

-- the status that refuses a table for its fault, or want of memory
abbrev pub RefusesTable : List ℕ → LoadErr → Status → Type 0
RefusesTable name fault NoMemory = Unit {0}
RefusesTable name (load_err.Fault number column what) status = status ≡ Refused (Table name number column what)
RefusesTable name load_err.NoMemory status = ⊥
