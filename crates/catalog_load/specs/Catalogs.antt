-- The text of a catalogue.
use Rattle.std.specs.Prelude.{◌≡◌, ℕ, ◌<◌, Bool, true, false, not, nat_le, List, [], ◌∷◌, ◌++◌, length, map, if◌then◌else◌, Option, Some, None, is_some, codes, All}
use Rattle.std.specs.List.{flat_map, list_any, position}
use Rattle.std.specs.Str.{bytes_eq}
use Rattle.postquel_tokens.specs.declared.fault.Spot.{Spot}
use Rattle.postquel_tokens.specs.declared.fault.What.{What}
use Rattle.postquel_tokens.specs.declared.fault.What.TheVariants as what
use Rattle.postquel_tokens.specs.declared.form.Ident.{Ident}
use Rattle.postquel_tokens.specs.declared.token.Token.{Token}
use Rattle.postquel_tokens.specs.Names.{key_of}
use Rattle.postquel_tokens.specs.declared.token.TokenKind.TheVariants as kind
use Rattle.postquel_tokens.specs.declared.token.Sign.{Sign}
use Rattle.postquel_tokens.specs.declared.token.Sign.TheVariants as sign
use Rattle.rows.specs.declared.field.ColType.{ColType}
use Rattle.rows.specs.declared.field.ColType.TheVariants as col
use Rattle.rows.specs.declared.plain.Column.{Column}
use Rattle.rows.specs.declared.plain.Relation.{Relation}
use Rattle.catalog_load.specs.declared.form.ColumnForm.{ColumnForm}
use Rattle.catalog_load.specs.declared.form.RelationForm.{RelationForm}
use Rattle.catalog_load.specs.declared.form.Flaw.{Flaw}

-- a name that no relation and no column may have
unfoldable pub is_key : List ℕ → Bool
is_key name = is_some (key_of name)

-- a part of an entry: a word, a name that is no key, a text, or a mark
pub data Piece : Type 0 where
  Word : List ℕ → Piece
  Named : Ident → Piece
  Quoted : List ℕ → Piece
  Mark : Sign → Piece

-- the token is this part; a name stands at its place, and all else anywhere
abbrev pub IsPiece : Piece → Token → Type 0
IsPiece (Word text) t = t.kind ≡ kind.Name text
IsPiece (Named name) t = (t.kind ≡ kind.Name name.text) × (t.spot ≡ name.spot) × (is_key name.text ≡ false)
IsPiece (Quoted text) t = t.kind ≡ kind.Word text
IsPiece (Mark s) t = t.kind ≡ kind.Mark s

-- the tokens are these parts, one for one
abbrev pub Spell : List Piece → List Token → Type 0
Spell [] [] = Unit {0}
Spell (p ∷ ps) (t ∷ ts) = IsPiece p t × Spell ps ts
Spell ps ts = ⊥

abbrev pub type_word : ColType → List ℕ
type_word col.Int4 = codes "int4"
type_word col.Text = codes "text"
type_word col.Bool = codes "bool"

-- NAME = TYPE [null]
abbrev pub column_pieces : ColumnForm → List Piece
column_pieces c = Named c.name ∷ Mark sign.Equal ∷ Word (type_word c.col_type) ∷ (if c.nullable then Word (codes "null") ∷ [] else [])

abbrev pub more_columns : List ColumnForm → List Piece
more_columns columns = flat_map (λ c. Mark sign.Comma ∷ column_pieces c) columns

-- columns with commas between them
abbrev pub columns_pieces : List ColumnForm → List Piece
columns_pieces [] = []
columns_pieces (c ∷ columns) = column_pieces c ++ more_columns columns

abbrev pub index_pieces : Option Ident → List Piece
index_pieces None = []
index_pieces (Some name) = Word (codes "index") ∷ Named name ∷ []

-- relation NAME from TEXT (
abbrev pub head_pieces : RelationForm → List Piece
head_pieces r = Word (codes "relation") ∷ Named r.name ∷ Word (codes "from") ∷ Quoted r.file ∷ Mark sign.Left ∷ []

-- the head, the columns, the closing parenthesis and the index
abbrev pub entry_pieces : RelationForm → List Piece
entry_pieces r = head_pieces r ++ columns_pieces r.columns ++ Mark sign.Right ∷ index_pieces r.index

-- these entries, each with a column or more, are what the tokens say
pub record IsForm (entries : List RelationForm) (tokens : List Token) : Type 0 where
  pub columns : All (λ r. 0 < length r.columns) entries
  pub spell : Spell (flat_map entry_pieces entries) tokens

-- a fault that comes where a test says so
abbrev pub check : Bool → What → Spot → Option Flaw
check fails what spot = if fails then Some (record { what = what; spot = spot }) else None

-- the first fault of some checks
abbrev pub first_of : List (Option Flaw) → Option Flaw
first_of [] = None
first_of (None ∷ rest) = first_of rest
first_of (Some flaw ∷ rest) = Some flaw

-- whether one of the columns has the name
abbrev pub has_column : List ColumnForm → List ℕ → Bool
has_column columns name = list_any (λ c. bytes_eq c.name.text name) columns

-- for each column behind the earlier ones: it is the 33rd, and then its name is an earlier one's
abbrev pub column_checks : List ColumnForm → List ColumnForm → List (Option Flaw)
column_checks earlier [] = []
column_checks earlier (c ∷ columns) =
    check (nat_le 32 (length earlier)) what.TooManyColumns c.name.spot
    ∷ check (has_column earlier c.name.text) what.DoubleColumn c.name.spot
    ∷ column_checks (earlier ++ c ∷ []) columns

-- an index is on a column of the relation
abbrev pub index_check : List ColumnForm → Option Ident → Option Flaw
index_check columns None = None
index_check columns (Some name) = check (not (has_column columns name.text)) what.NoColumn name.spot

abbrev pub has_relation : List RelationForm → List ℕ → Bool
has_relation entries name = list_any (λ r. bytes_eq r.name.text name) entries

-- the relation is the 17th, its name is an earlier one's, then its columns, and last its index
abbrev pub relation_checks : List RelationForm → RelationForm → List (Option Flaw)
relation_checks earlier r =
    check (nat_le 16 (length earlier)) what.TooManyRelations r.name.spot
    ∷ check (has_relation earlier r.name.text) what.DoubleRelation r.name.spot
    ∷ first_of (column_checks [] r.columns)
    ∷ index_check r.columns r.index
    ∷ []

-- for each entry behind the earlier ones, the first of its faults
abbrev pub catalog_checks : List RelationForm → List RelationForm → List (Option Flaw)
catalog_checks earlier [] = []
catalog_checks earlier (r ∷ entries) = first_of (relation_checks earlier r) ∷ catalog_checks (earlier ++ r ∷ []) entries

-- the first fault of the entries
abbrev pub fault_of : List RelationForm → Option Flaw
fault_of entries = first_of (catalog_checks [] entries)

abbrev pub column_of : ColumnForm → Column
column_of c = record { name = c.name.text; col_type = c.col_type; nullable = c.nullable }

-- the place of the index's column
abbrev pub index_of : List ColumnForm → Option Ident → Option ℕ
index_of columns None = None
index_of columns (Some name) = position (λ c. bytes_eq c.name.text name.text) columns

abbrev pub relation_of : RelationForm → Relation
relation_of r = record { name = r.name.text; file = r.file; columns = map column_of r.columns; index = index_of r.columns r.index }
