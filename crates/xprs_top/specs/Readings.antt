-- What files are read as: a value or a fault.
use Rattle.std.specs.Prelude.{◌≡◌, ◌⊎◌, ℕ, List, [], ◌∷◌, map, length, nat_le, if◌then◌else◌, Option, Some, None, Result, Ok, Err}
use Rattle.rows.specs.declared.plain.Machine.{Machine}
use Rattle.rows.specs.declared.plain.Relation.{Relation}
use Rattle.rows.specs.declared.plain.Step.{Step}
use Rattle.rows.specs.declared.value.Value.{Value}
use Rattle.rel_meaning.specs.declared.query.Table.{Table}
use Rattle.rel_meaning.specs.Expression.{Question}
use Rattle.postquel_tokens.specs.declared.fault.Spot.{Spot}
use Rattle.postquel_tokens.specs.declared.fault.What.{What}
use Rattle.postquel_tokens.specs.declared.fault.TextErr.{TextErr}
use Rattle.postquel_tokens.specs.declared.fault.TextErr.TheVariants as text_err
use Rattle.postquel_tokens.specs.declared.token.Token.{Token}
use Rattle.postquel_tokens.specs.Lex.{lex_of}
use Rattle.postquel.specs.Program.{Program}
use Rattle.postquel.specs.Print.{script_text}
use Rattle.postquel.specs.Reading as script
use Rattle.catalog_load.specs.Readings as catalog
use Rattle.catalog_load.specs.Tables.{rows_of}
use Rattle.catalog_load.specs.declared.fault.LoadErr.{LoadErr}
use Rattle.catalog_load.specs.declared.fault.LoadErr.TheVariants as load_err
use Rattle.name_check.specs.Machine.{machine_steps}
use Rattle.name_check.specs.Sentences.{heading_of, queries_of}
use Rattle.xp_outside.specs.Outside.{file_at}
use Rattle.xprs_top.specs.declared.status.Status.{Status}
use Rattle.xprs_top.specs.declared.status.Status.TheVariants.{Refused, NoMemory}
use Rattle.xprs_top.specs.declared.status.Refused.TheVariants.{Missing, TooLong, Script, Table as TableFault}
use Rattle.xprs_top.specs.declared.goal.Aim.{Aim}
use Rattle.xprs_top.specs.declared.goal.Aim.TheVariants.{Print, Make}
use Rattle.xprs_top.specs.declared.goal.Goal.{Goal}
use Rattle.xprs_top.specs.Requests.{Request}

abbrev pub Files : Type 0
Files = List (List ℕ × List ℕ)

-- what is read is just this
abbrev pub Just : {A : Type 0} → Result A Status → Result A Status → Type 0
Just found outcome = found ≡ outcome

-- one reading, and behind it another of what the first one gave; the first fault counts
abbrev pub Then : {A B : Type 0} → (Result A Status → Type 0) → (A → Result B Status → Type 0) → Result B Status → Type 0
Then {A} first next (Ok y) = (x : A) × first (Ok x) × next x (Ok y)
Then {A} first next (Err e) = first (Err e) ⊎ ((x : A) × first (Ok x) × next x (Err e))

-- the fault of a text, and the file that has it
abbrev pub text_fault : List ℕ → What × Spot → Status
text_fault name f = Refused (Script name f.1.line f.1.col f.0)

-- a reading of the text of a file
abbrev pub InFile : {A : Type 0} → List ℕ → (Result A (What × Spot) → Type 0) → Result A Status → Type 0
InFile name read (Ok x) = read (Ok x)
InFile name read (Err e) = (f : What × Spot) × read (Err f) × (e ≡ text_fault name f)

-- what a check gives, and the file that has its fault
abbrev pub checked_in : {A : Type 0} → List ℕ → Result A TextErr → Result A Status
checked_in name (Ok x) = Ok x
checked_in name (Err (text_err.Fault line col what)) = Err (text_fault name (what, record { line = line; col = col }))
checked_in name (Err text_err.NoMemory) = Err NoMemory

abbrev pub bytes_or_fault : List ℕ → Option (List ℕ) → Result (List ℕ) Status
bytes_or_fault name None = Err (Refused (Missing name))
bytes_or_fault name (Some bytes) = if nat_le (length bytes) 67108864 then Ok bytes else Err (Refused (TooLong name))

-- the bytes of a file that is there and isn't too long
abbrev pub fetch_of : Files → List ℕ → Result (List ℕ) Status
fetch_of files name = bytes_or_fault name (file_at files name)

-- the script that a text is, or its first fault: of its tokens first, and then of their grammar
abbrev pub IsProgram : List ℕ → Result Program (What × Spot) → Type 0
IsProgram text (Ok program) = (tokens : List Token) × (lex_of text ≡ Ok tokens) × script.IsReading tokens (Ok program)
IsProgram text (Err f) = (lex_of text ≡ Err f) ⊎ ((tokens : List Token) × (lex_of text ≡ Ok tokens) × script.IsReading tokens (Err f))

-- a catalogue and a script that passed all checks: the script, the steps of its machine line, and its questions
pub record Checked : Type 0 where
  pub catalog : List Relation
  pub program : Program
  pub steps : List Step
  pub questions : List Question

-- the machine line is checked, and then the statements
abbrev pub check_of : List Relation → List ℕ → Program → Result Checked Status → Type 0
check_of catalog name program =
    Then (Just (checked_in name (machine_steps program.steps))) (λ steps.
    Then (Just (checked_in name (queries_of (map heading_of catalog) program.sentences))) (λ questions.
    Just (Ok (record { catalog = catalog; program = program; steps = steps; questions = questions }))))

abbrev pub IsCatalog : Files → List ℕ → Result (List Relation) Status → Type 0
IsCatalog files name = Then (Just (fetch_of files name)) (λ bytes. InFile name (catalog.IsReading bytes))

abbrev pub IsScript : Files → List Relation → List ℕ → Result Checked Status → Type 0
IsScript files relations name = Then (Just (fetch_of files name)) (λ bytes. Then (InFile name (IsProgram bytes)) (check_of relations name))

-- the catalogue first, and then the script
abbrev pub IsChecked : Files → Request → Result Checked Status → Type 0
IsChecked files request = Then (IsCatalog files request.catalog) (λ relations. IsScript files relations request.script)

abbrev pub bind : {A B : Type 0} → Result A Status → (A → Result B Status) → Result B Status
bind (Ok x) f = f x
bind (Err e) f = Err e

-- the rows of a table, or the table that has a fault
abbrev pub loaded_in : {A : Type 0} → List ℕ → Result A LoadErr → Result A Status
loaded_in name (Ok x) = Ok x
loaded_in name (Err (load_err.Fault number column what)) = Err (Refused (TableFault name number column what))
loaded_in name (Err load_err.NoMemory) = Err NoMemory

abbrev pub table_of : Files → Relation → Result (List (List Value)) Status
table_of files relation = bind (fetch_of files relation.file) (λ bytes. loaded_in relation.file (rows_of relation.columns bytes))

-- the tables in catalogue order
abbrev pub tables_of : Files → List Relation → Result (List Table) Status
tables_of files [] = Ok []
tables_of files (relation ∷ relations) =
    bind (table_of files relation) (λ rows. bind (tables_of files relations) (λ tables. Ok (record { columns = relation.columns; rows = rows } ∷ tables)))

-- What a run is to do: write this text, or make what is asked for of the questions of a script and the tables of its catalogue, by
-- a machine.
pub data Job : Type 0 where
  write : List ℕ → Job
  over : Goal → Machine → Checked → List Table → Job

abbrev pub job_by : Files → Aim → Checked → Result Job Status
job_by files Print checked = Ok (write (script_text checked.program))
job_by files (Make goal machine) checked = bind (tables_of files checked.catalog) (λ db. Ok (over goal machine checked db))

-- The job that is asked for: to write the script as it prints, or to answer it or show its plans, for both of which all tables are
-- read.
abbrev pub IsJob : Files → Request → Result Job Status → Type 0
IsJob files request = Then (IsChecked files request) (λ checked. Just (job_by files request.aim checked))
