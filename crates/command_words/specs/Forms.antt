-- The forms of the words, and what they ask for.
use Rattle.std.specs.Prelude.{ℕ, Bool, true, false, ◌&&◌, nat_le, nat_lt, List, [], ◌∷◌, length}
use Rattle.std.specs.Prelude.{Option, Some, None, if◌then◌else◌, codes}
use Rattle.std.specs.Char.{is_ascii_digit}
use Rattle.std.specs.List.{list_all}
use Rattle.std.specs.Option.{option_and_then, option_map}
use Rattle.std.specs.Str.{bytes_eq}
use Rattle.std.specs.Str.Parse.{digits_value}
use Rattle.clap.specs.Kinds.{Kinds}
use Rattle.clap.specs.Faults.{fault_of}
use Rattle.clap.specs.Simple.{App, matches_of}
use Rattle.clap.specs.Walk.{Row, first_of}
use Rattle.command_words.specs.Commands.{Text, file_app, generation_app, job_app, plans_app}
use Rattle.command_words.specs.declared.reading.Form.{Form}
use Rattle.command_words.specs.declared.reading.Form.TheVariants as form
use Rattle.command_words.specs.declared.request.FileNames.{FileNames}
use Rattle.command_words.specs.declared.request.Generation.{Generation}
use Rattle.command_words.specs.declared.request.Job.{Job}
use Rattle.command_words.specs.declared.request.JoinMethod.{JoinMethod}
use Rattle.command_words.specs.declared.request.JoinMethod.TheVariants.{Hash, Merge}
use Rattle.command_words.specs.declared.request.Machine.{Machine}
use Rattle.command_words.specs.declared.request.Plans.{Plans}
use Rattle.command_words.specs.declared.request.Request.{Request}
use Rattle.command_words.specs.declared.request.Request.TheVariants as request

-- ---- what is asked for

pub record Files : Type 0 where
  pub catalog : Text
  pub script : Text

pub record Answered : Type 0 where
  pub files : Files
  pub machine : Machine
  pub join : JoinMethod
  pub is_traced : Bool

pub record Planned : Type 0 where
  pub files : Files
  pub backends : ℕ
  pub drives : ℕ
  pub join : JoinMethod

pub data Asked : Type 0 where
  run : Answered → Asked
  alone : Answered → Asked
  explain : Planned → Asked
  check : Files → Asked
  gen : Generation → Asked

abbrev pub files_of : FileNames → Files
files_of f = record { catalog = f.catalog.now; script = f.script.now }

abbrev pub job_of : Job → Answered
job_of j =
    record { files = files_of j.files; machine = j.machine; join = j.join; is_traced = j.is_traced }

abbrev pub plans_of : Plans → Planned
plans_of p =
    record { files = files_of p.files; backends = p.backends; drives = p.drives; join = p.join }

abbrev pub request_of : Request → Asked
request_of (request.Run j) = run (job_of j)
request_of (request.Alone j) = alone (job_of j)
request_of (request.Explain p) = explain (plans_of p)
request_of (request.Check f) = check (files_of f)
request_of (request.Gen g) = gen g

-- ---- values of options

-- one decimal digit or more, and nothing else
abbrev pub is_numeral : Text → Bool
is_numeral text = nat_lt 0 (length text) && list_all is_ascii_digit text

-- the number that a text writes, where it is in the range
abbrev pub number_within : ℕ → ℕ → Text → Option ℕ
number_within low high text =
    if is_numeral text && (nat_le low (digits_value 10 text) && nat_le (digits_value 10 text) high)
    then Some (digits_value 10 text) else None

-- of an option that stands for a number where it isn't there
abbrev pub number_or : ℕ → ℕ → ℕ → Option Text → Option ℕ
number_or standard low high None = Some standard
number_or standard low high (Some text) = number_within low high text

abbrev pub backends_by : List Row → Option ℕ
backends_by rows = number_or 4 1 64 (first_of (codes "backends") rows)

abbrev pub drives_by : List Row → Option ℕ
drives_by rows = number_or 4 1 16 (first_of (codes "drives") rows)

abbrev pub frames_by : List Row → Option ℕ
frames_by rows = number_or 64 1 4096 (first_of (codes "frames") rows)

abbrev pub batch_by : List Row → Option ℕ
batch_by rows = number_or 8 1 64 (first_of (codes "batch") rows)

abbrev pub method_named : Option Text → Option JoinMethod
method_named None = Some Hash
method_named (Some text) =
    if bytes_eq text (codes "hash") then Some Hash
    else if bytes_eq text (codes "merge") then Some Merge
    else None

abbrev pub join_by : List Row → Option JoinMethod
join_by rows = method_named (first_of (codes "join") rows)

abbrev pub is_on : Option Text → Bool
is_on None = false
is_on (Some text) = bytes_eq text (codes "true")

abbrev pub trace_by : List Row → Bool
trace_by rows = is_on (first_of (codes "trace") rows)

abbrev pub number_by : List Row → Option ℕ
number_by rows =
    option_and_then (number_within 0 18446744073709551615) (first_of (codes "number") rows)

abbrev pub row_count_by : List Row → Option ℕ
row_count_by rows = option_and_then (number_within 1 100000) (first_of (codes "rows") rows)

-- ---- forms

abbrev pub files_by : List Row → Option Files
files_by rows =
    option_and_then (λ catalog.
    option_map (λ script. record { catalog = catalog; script = script })
    (first_of (codes "script") rows)) (first_of (codes "catalog") rows)

abbrev pub machine_by : List Row → Option Machine
machine_by rows =
    option_and_then (λ backends. option_and_then (λ drives. option_and_then (λ frames.
    option_map (λ batch.
    record { backends = backends; drives = drives; frames = frames; batch = batch })
    (batch_by rows)) (frames_by rows)) (drives_by rows)) (backends_by rows)

abbrev pub job_by : List Row → Option Answered
job_by rows =
    option_and_then (λ files. option_and_then (λ machine.
    option_map (λ join.
    record { files = files; machine = machine; join = join; is_traced = trace_by rows })
    (join_by rows)) (machine_by rows)) (files_by rows)

abbrev pub plans_by : List Row → Option Planned
plans_by rows =
    option_and_then (λ files. option_and_then (λ backends. option_and_then (λ drives.
    option_map (λ join.
    record { files = files; backends = backends; drives = drives; join = join })
    (join_by rows)) (drives_by rows)) (backends_by rows)) (files_by rows)

abbrev pub generation_by : List Row → Option Generation
generation_by rows =
    option_and_then (λ number. option_and_then (λ count.
    option_map (λ machine. record { number = number; rows = count; machine = machine })
    (machine_by rows)) (row_count_by rows)) (number_by rows)

abbrev pub is_clear : Kinds → Bool
is_clear [] = true
is_clear (k ∷ ks) = false

-- what the words say, where the command takes them
abbrev pub form_with : {A : Type 0} → App → (List Row → Option A) → List Text → Option A
form_with a by words = if is_clear (fault_of a words) then by (matches_of a words) else None

unfoldable pub job_form : List Text → Option Answered
job_form words = form_with job_app job_by words

unfoldable pub plans_form : List Text → Option Planned
plans_form words = form_with plans_app plans_by words

unfoldable pub file_form : List Text → Option Files
file_form words = form_with file_app files_by words

unfoldable pub generation_form : List Text → Option Generation
generation_form words = form_with generation_app generation_by words

-- the form that a word names
unfoldable pub form_called : Text → Option Form
form_called word =
    if bytes_eq word (codes "run") then Some form.Run
    else if bytes_eq word (codes "alone") then Some form.Alone
    else if bytes_eq word (codes "explain") then Some form.Explain
    else if bytes_eq word (codes "check") then Some form.Check
    else if bytes_eq word (codes "gen") then Some form.Gen
    else None

-- what the words ask for as words of a form
abbrev pub asked_by : Form → List Text → Option Asked
asked_by form.Run words = option_map run (job_form words)
asked_by form.Alone words = option_map alone (job_form words)
asked_by form.Explain words = option_map explain (plans_form words)
asked_by form.Check words = option_map check (file_form words)
asked_by form.Gen words = option_map gen (generation_form words)

abbrev pub asked_if : Option Form → List Text → Option Asked
asked_if None words = None
asked_if (Some f) words = asked_by f words

-- what the words ask for, where they are of a form
abbrev pub form_of : List Text → Option Asked
form_of [] = None
form_of (word ∷ others) = asked_if (form_called word) (word ∷ others)
