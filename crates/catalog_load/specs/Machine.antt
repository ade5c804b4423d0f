-- How a catalogue's entries are read, one token after the other.
use Rattle.std.specs.Prelude.{◌≡◌, ℕ, Bool, true, false, List, [], ◌∷◌, ◌++◌, if◌then◌else◌, Option, Some, None, Result, Ok, Err, codes}
use Rattle.std.specs.Option.{option_map}
use Rattle.std.specs.Str.{bytes_eq}
use denote.Enum.Bare.{sameb}
use Rattle.postquel_tokens.specs.contracts.token.Sign as sign_type
use Rattle.postquel_tokens.specs.declared.fault.Spot.{Spot}
use Rattle.postquel_tokens.specs.declared.fault.What.TheVariants as what
use Rattle.postquel_tokens.specs.declared.fault.TextErr.{TextErr}
use Rattle.postquel_tokens.specs.declared.fault.TextErr.TheVariants as text_err
use Rattle.postquel_tokens.specs.declared.form.Ident.{Ident}
use Rattle.postquel_tokens.specs.declared.token.Token.{Token}
use Rattle.postquel_tokens.specs.declared.token.TokenKind.{TokenKind}
use Rattle.postquel_tokens.specs.declared.token.TokenKind.TheVariants as kind
use Rattle.postquel_tokens.specs.declared.token.Sign.{Sign}
use Rattle.postquel_tokens.specs.declared.token.Sign.TheVariants as sign
use Rattle.rows.specs.declared.field.ColType.{ColType}
use Rattle.rows.specs.declared.field.ColType.TheVariants as col
use Rattle.catalog_load.specs.declared.words.Halt.{Halt}
use Rattle.catalog_load.specs.declared.words.Halt.TheVariants as halt
use Rattle.catalog_load.specs.declared.form.ColumnForm.{ColumnForm}
use Rattle.catalog_load.specs.declared.form.RelationForm.{RelationForm}
use Rattle.catalog_load.specs.declared.machine.Place.{Place}
use Rattle.catalog_load.specs.declared.machine.Place.TheVariants as place
use Rattle.catalog_load.specs.Catalogs.{is_key}
use Rattle.catalog_load.specs.Readings.{spot_of}

-- what was found is that, unless memory ran out
abbrev pub Finds : {A : Type 0} → Result A Halt → Option A → Type 0
Finds (Ok x) found = found ≡ Some x
Finds (Err halt.Unexpected) found = found ≡ None
Finds (Err halt.NoMemory) found = Unit {0}

abbrev pub word_is : List ℕ → TokenKind → Bool
word_is word (kind.Name text) = bytes_eq text word
word_is word (kind.Number n) = false
word_is word (kind.Word text) = false
word_is word (kind.Mark s) = false
word_is word kind.End = false

abbrev pub is_word : List ℕ → Token → Bool
is_word word t = word_is word t.kind

abbrev pub mark_is : Sign → TokenKind → Bool
mark_is s (kind.Mark found) = sameb sign_type.the_type found s
mark_is s (kind.Name text) = false
mark_is s (kind.Number n) = false
mark_is s (kind.Word text) = false
mark_is s kind.End = false

abbrev pub is_mark : Sign → Token → Bool
is_mark s t = mark_is s t.kind

abbrev pub name_in : Spot → TokenKind → Option Ident
name_in spot (kind.Name text) = if is_key text then None else Some (record { text = text; spot = spot })
name_in spot (kind.Number n) = None
name_in spot (kind.Word text) = None
name_in spot (kind.Mark s) = None
name_in spot kind.End = None

abbrev pub name_of : Token → Option Ident
name_of t = name_in t.spot t.kind

abbrev pub quoted_in : TokenKind → Option (List ℕ)
quoted_in (kind.Word text) = Some text
quoted_in (kind.Name text) = None
quoted_in (kind.Number n) = None
quoted_in (kind.Mark s) = None
quoted_in kind.End = None

abbrev pub quoted_of : Token → Option (List ℕ)
quoted_of t = quoted_in t.kind

abbrev pub type_of : Token → Option ColType
type_of t = if is_word (codes "int4") t then Some col.Int4 else if is_word (codes "text") t then Some col.Text else if is_word (codes "bool") t then Some col.Bool else None

abbrev pub with_column : RelationForm → ColumnForm → RelationForm
with_column entry column = record { name = entry.name; file = entry.file; columns = entry.columns ++ column ∷ []; index = entry.index }

abbrev pub new_entry : Ident → List ℕ → RelationForm
new_entry name file = record { name = name; file = file; columns = []; index = None }

abbrev pub new_column : Ident → ColType → ColumnForm
new_column name col_type = record { name = name; col_type = col_type; nullable = false }

abbrev pub nullable_column : ColumnForm → ColumnForm
nullable_column c = record { name = c.name; col_type = c.col_type; nullable = true }

abbrev pub with_index : RelationForm → Ident → RelationForm
with_index entry name = record { name = entry.name; file = entry.file; columns = entry.columns; index = Some name }

abbrev pub behind_column : RelationForm → ColumnForm → Token → Option Place
behind_column entry column t =
    if is_mark sign.Comma t then Some (place.Column (with_column entry column))
    else if is_mark sign.Right t then Some (place.BehindColumns (with_column entry column))
    else None

abbrev pub behind_type : RelationForm → ColumnForm → Token → Option Place
behind_type entry column t =
    if is_word (codes "null") t then Some (place.BehindNull entry (nullable_column column)) else behind_column entry column t

-- the entries that were read, and the place in the next one
abbrev pub State : Type 0
State = List RelationForm × Place

abbrev pub behind_columns : List RelationForm → RelationForm → Token → Option State
behind_columns entries entry t =
    if is_word (codes "index") t then Some (entries, place.Index entry)
    else if is_word (codes "relation") t then Some (entries ++ entry ∷ [], place.Name)
    else None

abbrev pub indexed : List RelationForm → RelationForm → Token → Option State
indexed entries entry t = option_map (λ name. (entries ++ with_index entry name ∷ [], place.Relation)) (name_of t)

abbrev pub stay : List RelationForm → Option Place → Option State
stay entries found = option_map (λ p. (entries, p)) found

abbrev pub if_mark : Sign → Token → Place → Option Place
if_mark s t next = if is_mark s t then Some next else None

abbrev pub if_word : List ℕ → Token → Place → Option Place
if_word word t next = if is_word word t then Some next else None

-- what a token that is told beforehand leads to
abbrev pub fixed : Place → Token → Option Place
fixed place.Relation t = if_word (codes "relation") t place.Name
fixed (place.From name) t = if_word (codes "from") t (place.File name)
fixed (place.Open entry) t = if_mark sign.Left t (place.Column entry)
fixed (place.Equal entry name) t = if_mark sign.Equal t (place.Type entry name)
fixed place.Name t = None
fixed (place.File name) t = None
fixed (place.Column entry) t = None
fixed (place.Type entry name) t = None
fixed (place.BehindType entry column) t = None
fixed (place.BehindNull entry column) t = None
fixed (place.BehindColumns entry) t = None
fixed (place.Index entry) t = None

-- what a token inside of an entry leads to
abbrev pub within : Place → Token → Option Place
within place.Name t = option_map place.From (name_of t)
within (place.File name) t = option_map (λ file. place.Open (new_entry name file)) (quoted_of t)
within (place.Column entry) t = option_map (place.Equal entry) (name_of t)
within (place.Type entry name) t = option_map (λ col_type. place.BehindType entry (new_column name col_type)) (type_of t)
within (place.BehindType entry column) t = behind_type entry column t
within (place.BehindNull entry column) t = behind_column entry column t
within place.Relation t = fixed place.Relation t
within (place.From name) t = fixed (place.From name) t
within (place.Open entry) t = fixed (place.Open entry) t
within (place.Equal entry name) t = fixed (place.Equal entry name) t
within (place.BehindColumns entry) t = None
within (place.Index entry) t = None

-- what a token leads to
abbrev pub step : List RelationForm → Place → Token → Option State
step entries (place.BehindColumns entry) t = behind_columns entries entry t
step entries (place.Index entry) t = indexed entries entry t
step entries place.Relation t = stay entries (within place.Relation t)
step entries place.Name t = stay entries (within place.Name t)
step entries (place.From name) t = stay entries (within (place.From name) t)
step entries (place.File name) t = stay entries (within (place.File name) t)
step entries (place.Open entry) t = stay entries (within (place.Open entry) t)
step entries (place.Column entry) t = stay entries (within (place.Column entry) t)
step entries (place.Equal entry name) t = stay entries (within (place.Equal entry name) t)
step entries (place.Type entry name) t = stay entries (within (place.Type entry name) t)
step entries (place.BehindType entry column) t = stay entries (within (place.BehindType entry column) t)
step entries (place.BehindNull entry column) t = stay entries (within (place.BehindNull entry column) t)

-- the entries and the place after a step, unless memory ran out
abbrev pub Steps : List RelationForm → Result Place Halt → Option State → Type 0
Steps new (Ok p) found = found ≡ Some (new, p)
Steps new (Err halt.Unexpected) found = found ≡ None
Steps new (Err halt.NoMemory) found = Unit {0}

-- the entries, where the text may end at the place
abbrev pub finish : List RelationForm → Place → Option (List RelationForm)
finish entries place.Relation = Some entries
finish entries (place.BehindColumns entry) = Some (entries ++ entry ∷ [])
finish entries _ = None

abbrev pub or_end : Option (List RelationForm) → Result (List RelationForm) (List Token)
or_end (Some entries) = Ok entries
or_end None = Err []

abbrev pub going_on : Option State → List Token → (List RelationForm → Place → Result (List RelationForm) (List Token)) → Result (List RelationForm) (List Token)
going_on None rest more = Err rest
going_on (Some s) rest more = more s.0 s.1

-- the entries that the tokens say, or the tokens from the first unexpected one on
unfoldable pub run : List RelationForm → Place → List Token → Result (List RelationForm) (List Token)
run entries p [] = or_end (finish entries p)
run entries p (t ∷ ts) = going_on (step entries p t) (t ∷ ts) (λ es q. run es q ts)

-- what was read is that, unless memory ran out
abbrev pub Told : {A : Type 0} → (A → List RelationForm) → Spot → Result A TextErr → Result (List RelationForm) (List Token) → Type 0
Told view end (Ok found) (Ok entries) = entries ≡ view found
Told view end (Ok found) (Err rest) = ⊥
Told view end (Err (text_err.Fault line col w)) (Ok entries) = ⊥
Told view end (Err (text_err.Fault line col w)) (Err rest) = (w ≡ what.Unexpected) × (record { line = line; col = col } ≡ spot_of rest end)
Told view end (Err text_err.NoMemory) r = Unit {0}
