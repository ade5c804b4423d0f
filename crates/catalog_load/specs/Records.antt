-- A reader of records, as the records that it has left.
use Rattle.std.specs.Prelude.{◌≡◌, ℕ, ◌+◌, Bool, true, false, List, [], ◌∷◌, length, Option, Some, None}
use Rattle.std.specs.Borrow.{Bor}
use Rattle.csv.specs.Reading.{Ready, default_config, records_from, source_of}
use Rattle.csv.specs.declared.reader.Reader.{Reader}
use Rattle.csv.specs.declared.reader.Trim.TheVariants as trim
use Rattle.csv.specs.declared.parser.State.{State}
use Rattle.csv.specs.declared.parser.State.TheVariants as st
use Rattle.catalog_load.specs.Tables.{Record}

abbrev pub TextReader : Type 0
TextReader = Reader (Bor (List ℕ))

-- no record is open in this state
abbrev pub is_between : State → Bool
is_between st.StartRecord = true
is_between st.AfterCr = true
is_between st.StartField = false
is_between st.InField = false
is_between st.InQuoted = false
is_between st.AfterQuote = false
is_between st.InEscape = false
is_between st.InComment = false

-- the bytes that a reader has left, where they are known
abbrev pub bytes_in : TextReader → Option (List ℕ)
bytes_in reader = source_of (λ s. Some s.now) reader

abbrev pub known : Option (List ℕ) → List ℕ
known None = []
known (Some bytes) = bytes

-- the records of these bytes, from a state between records
abbrev pub records_at : State → List ℕ → List Record
records_at state bytes = records_from default_config (length bytes + 1) state bytes

-- the records that a reader has left
unfoldable pub left_in : TextReader → List Record
left_in reader = records_at reader.state (known (bytes_in reader))

-- a reader of plain records in the default dialect that stands between two of them
pub record IsPlain (reader : TextReader) : Type 0 where
  pub trim : reader.trim ≡ trim.None
  pub ready : Ready reader
  pub config : reader.config ≡ default_config
  pub between : is_between reader.state ≡ true
  pub bytes : List ℕ
  pub known : bytes_in reader ≡ Some bytes

-- a record was taken from the front, or there was none
abbrev pub Pops : Bool → List Record → Record → List Record → Type 0
Pops true old fields new = old ≡ fields ∷ new
Pops false old fields new = old ≡ []
