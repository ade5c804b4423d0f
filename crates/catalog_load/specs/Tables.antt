-- The rows that the text of a table writes, or its first fault.
use Rattle.std.specs.Prelude.{◌≡◌, ℕ, ◌+◌, Bool, false, ◌&&◌, ◌==◌, nat_le, List, [], ◌∷◌, length, if◌then◌else◌, Option, Some, None, Result, Ok, Err}
use Rattle.std.specs.Str.{bytes_eq}
use Rattle.csv.specs.Reading.{default_config, records, strip_bom}
use Rattle.rows.specs.declared.value.Value.{Value}
use Rattle.rows.specs.declared.value.Value.TheVariants.{Null}
use Rattle.rows.specs.declared.plain.Column.{Column}
use Rattle.rows.specs.declared.field.FieldErr.{FieldErr}
use Rattle.rows.specs.declared.field.FieldErr.TheVariants as field_err
use Rattle.rows.specs.Fields.{field_value}
use Rattle.rows.specs.RowBytes.{row_bytes}
use Rattle.catalog_load.specs.declared.fault.TableWhat.TheVariants as what
use Rattle.catalog_load.specs.declared.fault.LoadErr.{LoadErr}
use Rattle.catalog_load.specs.declared.fault.LoadErr.TheVariants.{Fault, NoMemory}

abbrev pub Record : Type 0
Record = List (List ℕ)

-- the records of a text: those of `csv` with its default dialect, the header among them
abbrev pub records_of : List ℕ → List Record
records_of text = records default_config (strip_bom text)

abbrev pub behind : {A : Type 0} → A → Result (List A) LoadErr → Result (List A) LoadErr
behind x (Ok xs) = Ok (x ∷ xs)
behind x (Err e) = Err e

-- all the values, or the first fault
abbrev pub all_or_first : {A : Type 0} → List (Result A LoadErr) → Result (List A) LoadErr
all_or_first [] = Ok []
all_or_first (Ok x ∷ rest) = behind x (all_or_first rest)
all_or_first (Err e ∷ rest) = Err e

-- the fault of a field, in the column of this number
abbrev pub load_err : ℕ → ℕ → FieldErr → LoadErr
load_err number column field_err.NotUtf8 = Fault number column what.NotUtf8
load_err number column field_err.NotInt4 = Fault number column what.NotInt4
load_err number column field_err.OutOfInt4 = Fault number column what.OutOfInt4
load_err number column field_err.TextTooLong = Fault number column what.TextTooLong
load_err number column field_err.NotBool = Fault number column what.NotBool
load_err number column field_err.NoMemory = NoMemory

abbrev pub placed : ℕ → ℕ → Result Value FieldErr → Result Value LoadErr
placed number column (Ok v) = Ok v
placed number column (Err e) = Err (load_err number column e)

-- what a field spells in a column: null, where it is empty and the column nullable
abbrev pub value_of : Column → List ℕ → Result Value FieldErr
value_of c field = if c.nullable && (length field == 0) then Ok Null else field_value c.col_type field

-- what each field of a record spells, the first one in the column of this number
abbrev pub cells : ℕ → ℕ → List Column → Record → List (Result Value LoadErr)
cells number column (c ∷ cs) (field ∷ fields) = placed number column (value_of c field) ∷ cells number (column + 1) cs fields
cells number column cs fields = []

-- the row, where its encoding takes at most 8,168 bytes
abbrev pub if_short : ℕ → List Column → Result (List Value) LoadErr → Result (List Value) LoadErr
if_short number columns (Ok row) = if nat_le (length (row_bytes columns row)) 8168 then Ok row else Err (Fault number 0 what.RowTooLong)
if_short number columns (Err e) = Err e

-- the row that a record writes, where it has one field for each column
abbrev pub counted_row : List Column → ℕ → Record → Result (List Value) LoadErr
counted_row columns number fields =
    if length fields == length columns then if_short number columns (all_or_first (cells number 1 columns fields))
    else Err (Fault number 0 what.FieldCount)

-- the row that the record of this number writes; the header is record 1, and at most a million may follow it
abbrev pub row_of : List Column → ℕ → Record → Result (List Value) LoadErr
row_of columns number fields = if nat_le number 1000001 then counted_row columns number fields else Err (Fault number 0 what.TooManyRows)

-- what each record writes, the first one with this number
abbrev pub rows_from : ℕ → List Column → List Record → List (Result (List Value) LoadErr)
rows_from number columns [] = []
rows_from number columns (fields ∷ others) = row_of columns number fields ∷ rows_from (number + 1) columns others

-- whether a field is there and is the name of the column
abbrev pub is_named : Option (List ℕ) → Column → Bool
is_named None c = false
is_named (Some field) c = bytes_eq field c.name

-- the first place, from this one on, at which the fields aren't the columns' names, or one of the two lists ends before the other
abbrev pub first_difference : ℕ → List Column → Record → Option ℕ
first_difference place [] [] = None
first_difference place (c ∷ cs) (field ∷ fields) = if bytes_eq field c.name then first_difference (place + 1) cs fields else Some place
first_difference place cs fields = Some place

abbrev pub behind_header : List Column → List Record → Option ℕ → Result (List (List Value)) LoadErr
behind_header columns others None = all_or_first (rows_from 2 columns others)
behind_header columns others (Some place) = Err (Fault 1 place what.BadHeader)

abbrev pub rows_of_records : List Column → List Record → Result (List (List Value)) LoadErr
rows_of_records columns [] = Err (Fault 1 0 what.NoHeader)
rows_of_records columns (header ∷ others) = behind_header columns others (first_difference 1 columns header)

-- the rows that a text writes over the columns, or its first fault
abbrev pub rows_of : List Column → List ℕ → Result (List (List Value)) LoadErr
rows_of columns text = rows_of_records columns (records_of text)

-- what was read is that, unless memory ran out
abbrev pub Loads : {A B : Type 0} → (A → B) → Result A LoadErr → Result B LoadErr → Type 0
Loads view (Ok x) read = read ≡ Ok (view x)
Loads view (Err NoMemory) read = Unit {0}
Loads view (Err fault) read = read ≡ Err fault
