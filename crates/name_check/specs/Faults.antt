-- The first fault of an expression, what it means and its type, where all range variables of its statement are known.
use Rattle.std.specs.Prelude.{◌≤◌, ℕ, nat_abs, nat_lt, List, [], ◌∷◌, ◌++◌, slice_get, Option, Some, None, if◌then◌else◌}
use Rattle.std.specs.Option.{option_map, option_or, unwrap_or}
use Rattle.std.specs.Result.{result_err}
use Rattle.postquel_tokens.specs.declared.fault.Spot.{Spot}
use Rattle.postquel_tokens.specs.declared.form.Ident.{Ident}
use Rattle.postquel_tokens.specs.declared.form.UnaryOp.{UnaryOp}
use Rattle.postquel_tokens.specs.declared.form.BinaryOp.{BinaryOp}
use Rattle.postquel_tokens.specs.declared.fault.What.TheVariants as what
use Rattle.postquel_tokens.specs.declared.fault.TextErr.{TextErr}
use Rattle.postquel_tokens.specs.Forms as phrase
use Rattle.postquel_tokens.specs.Forms.{Phrase}
use Rattle.rel_meaning.specs.declared.query.Var.{Var}
use Rattle.rows.specs.declared.plain.LayoutColumn.{LayoutColumn}
use Rattle.rel_meaning.specs.Expression as ex
use Rattle.rel_meaning.specs.Expression.{Expression}
use Rattle.rel_meaning.specs.Typing.{type_of}
use Rattle.name_check.specs.declared.heading.HeadColumn.{HeadColumn}
use Rattle.name_check.specs.declared.heading.Heading.{Heading}
use Rattle.name_check.specs.Places.{place_by, same}
use Rattle.name_check.specs.Types.{at, before, between}
use Rattle.name_check.specs.Built.{built_before, built_between}

abbrev pub var_named : List Var → List ℕ → Option ℕ
var_named vars name = place_by (λ v. same v.name name) vars

abbrev pub heading_named : List Heading → List ℕ → Option ℕ
heading_named headings name = place_by (λ h. same h.name name) headings

abbrev pub columns_at : Option Heading → List HeadColumn
columns_at None = []
columns_at (Some h) = h.columns

-- the columns of a range variable
abbrev pub var_columns : List Heading → Option Var → List HeadColumn
var_columns headings None = []
var_columns headings (Some v) = columns_at (slice_get headings v.relation)

abbrev pub columns_of : List Heading → List Var → ℕ → List HeadColumn
columns_of headings vars var = var_columns headings (slice_get vars var)

abbrev pub column_named : List HeadColumn → List ℕ → Option ℕ
column_named columns name = place_by (λ c. same c.name name) columns

abbrev pub column_type : List Heading → List Var → ℕ → ℕ → Option LayoutColumn
column_type headings vars var col = option_map (λ c. c.layout) (slice_get (columns_of headings vars var) col)

-- the variables that an expression names, in the order of the check
abbrev pub names_in : Phrase → List (List ℕ)
names_in (phrase.Number n) = []
names_in (phrase.Word w) = []
names_in (phrase.Truth b) = []
names_in (phrase.Dotted var col) = var.text ∷ []
names_in (phrase.Unary op spot e) = names_in e
names_in (phrase.Binary op spot left right) = names_in left ++ names_in right
names_in (phrase.IsNull spot e negated) = names_in e

abbrev pub added_over : List Var → List ℕ → Option ℕ → List Var
added_over vars name None = vars
added_over vars name (Some relation) = vars ++ record { name = name; relation = relation } ∷ []

abbrev pub added_unless : List Heading → List Var → List ℕ → Option ℕ → List Var
added_unless headings vars name (Some place) = vars
added_unless headings vars name None = added_over vars name (heading_named headings name)

-- the range variables after a name: one more where it is a relation's and no variable's
abbrev pub added : List Heading → List Var → List ℕ → List Var
added headings vars name = added_unless headings vars name (var_named vars name)

-- the range variables after names
abbrev pub grown : List Heading → List Var → List (List ℕ) → List Var
grown headings vars [] = vars
grown headings vars (name ∷ names) = grown headings (added headings vars name) names

abbrev pub range_fault_at : Ident → Option ℕ → Option TextErr
range_fault_at var None = Some (at var.spot what.NoRange)
range_fault_at var (Some place) = if nat_lt place 6 then None else Some (at var.spot what.TooManyRanges)

-- at a variable's name
abbrev pub range_fault : List Var → Ident → Option TextErr
range_fault vars var = range_fault_at var (var_named vars var.text)

abbrev pub column_fault_at : Ident → Option ℕ → Option TextErr
column_fault_at col None = Some (at col.spot what.NoColumn)
column_fault_at col (Some place) = None

-- at a column's name
abbrev pub column_fault : List Heading → List Var → Ident → Ident → Option TextErr
column_fault headings vars var col = column_fault_at col (column_named (columns_of headings vars (unwrap_or (var_named vars var.text) 0)) col.text)

-- what an expression means
abbrev pub meaning_in : List Heading → List Var → Phrase → Expression
meaning_in headings vars (phrase.Number n) = ex.number n
meaning_in headings vars (phrase.Word w) = ex.word w
meaning_in headings vars (phrase.Truth b) = ex.truth b
meaning_in headings vars (phrase.Dotted var col) =
    let place = unwrap_or (var_named vars var.text) 0 in
    ex.column place (unwrap_or (column_named (columns_of headings vars place) col.text) 0)
meaning_in headings vars (phrase.Unary op spot e) = built_before op (meaning_in headings vars e)
meaning_in headings vars (phrase.Binary op spot left right) = built_between op (meaning_in headings vars left) (meaning_in headings vars right)
meaning_in headings vars (phrase.IsNull spot e negated) = ex.is_null (meaning_in headings vars e) negated

abbrev pub type_in : List Heading → List Var → Phrase → Option LayoutColumn
type_in headings vars e = type_of (meaning_in headings vars e) (column_type headings vars)

-- at an operator whose operands have these types
abbrev pub before_fault : UnaryOp → Spot → Option LayoutColumn → Option TextErr
before_fault op spot None = None
before_fault op spot (Some a) = result_err (before op spot a)

abbrev pub between_fault : BinaryOp → Spot → Option LayoutColumn → Option LayoutColumn → Option TextErr
between_fault op spot (Some a) (Some b) = result_err (between op spot a b)
between_fault op spot None b = None
between_fault op spot (Some a) None = None

-- the first fault: operands come left to right before their operator
abbrev pub fault_in : List Heading → List Var → Phrase → Option TextErr
fault_in headings vars (phrase.Number n) = None
fault_in headings vars (phrase.Word w) = None
fault_in headings vars (phrase.Truth b) = None
fault_in headings vars (phrase.Dotted var col) = option_or (range_fault vars var) (column_fault headings vars var col)
fault_in headings vars (phrase.Unary op spot e) = option_or (fault_in headings vars e) (before_fault op spot (type_in headings vars e))
fault_in headings vars (phrase.Binary op spot left right) =
    option_or (fault_in headings vars left) (option_or (fault_in headings vars right) (between_fault op spot (type_in headings vars left) (type_in headings vars right)))
fault_in headings vars (phrase.IsNull spot e negated) = fault_in headings vars e

-- numbers as a script has them
abbrev pub NumbersFit : Phrase → Type 0
NumbersFit (phrase.Number n) = nat_abs n ≤ 9223372036854775807
NumbersFit (phrase.Unary op spot e) = NumbersFit e
NumbersFit (phrase.Binary op spot left right) = NumbersFit left × NumbersFit right
NumbersFit (phrase.IsNull spot e negated) = NumbersFit e
NumbersFit other = Unit {0}
