-- An expression's checks, step by step.
use Rattle.std.specs.Prelude.{◌≡◌, ℕ, nat_abs, Bool, nat_lt, List, [], ◌∷◌, ◌++◌, length, slice_get, Option, Some, None, Result, Ok, Err, if◌then◌else◌}
use Rattle.postquel_tokens.specs.declared.fault.Spot.{Spot}
use Rattle.postquel_tokens.specs.declared.form.Ident.{Ident}
use Rattle.postquel_tokens.specs.declared.form.UnaryOp.{UnaryOp}
use Rattle.postquel_tokens.specs.declared.form.BinaryOp.{BinaryOp}
use Rattle.postquel_tokens.specs.declared.fault.What.TheVariants as what
use Rattle.postquel_tokens.specs.declared.fault.TextErr.{TextErr}
use Rattle.postquel_tokens.specs.declared.fault.TextErr.TheVariants.{Fault, NoMemory}
use Rattle.postquel_tokens.specs.Forms as phrase
use Rattle.postquel_tokens.specs.Forms.{Phrase}
use Rattle.rel_meaning.specs.declared.query.Var.{Var}
use Rattle.rows.specs.declared.plain.LayoutColumn.{LayoutColumn}
use Rattle.rel_meaning.specs.Expression as ex
use Rattle.rel_meaning.specs.Expression.{Expression, expression_of}
use Rattle.rel_meaning.specs.Typing.{text_type}
use Rattle.name_check.specs.declared.heading.HeadColumn.{HeadColumn}
use Rattle.name_check.specs.declared.heading.Heading.{Heading}
use Rattle.name_check.specs.declared.checking.Typed.{Typed}
use Rattle.name_check.specs.declared.checking.RangeRef.{RangeRef}
use Rattle.name_check.specs.Places.{place_by, same}
use Rattle.name_check.specs.Types.{at, integer, truth, before, between}
use Rattle.name_check.specs.Built.{built_before, built_between}
use Rattle.name_check.specs.Faults.{columns_at}

-- an expression and its type
pub record Meant : Type 0 where
  pub expr : Expression
  pub layout : LayoutColumn

abbrev pub meant_of : Typed → Meant
meant_of typed = record { expr = expression_of typed.expr; layout = typed.layout }

-- what a function that checks ensures: the outcome, unless memory fails
abbrev pub Tells : {A B : Type 0} → (A → B) → Result (B × List Var) TextErr → Result A TextErr → List Var → Type 0
Tells view outcome (Ok a) vars = outcome ≡ Ok (view a, vars)
Tells view outcome (Err (Fault line col what)) vars = outcome ≡ Err (Fault line col what)
Tells view outcome (Err NoMemory) vars = Unit {0}

abbrev pub and_then : {A B : Type 0} → Result (A × List Var) TextErr → (A → List Var → Result (B × List Var) TextErr) → Result (B × List Var) TextErr
and_then (Ok p) f = f p.0 p.1
and_then (Err e) f = Err e

abbrev pub with_vars : {A B : Type 0} → (A → B) → List Var → Result A TextErr → Result (B × List Var) TextErr
with_vars f vars (Ok a) = Ok (f a, vars)
with_vars f vars (Err e) = Err e

abbrev pub relation_at : Option Var → ℕ
relation_at None = 0
relation_at (Some v) = v.relation

abbrev pub var_at : List Var → ℕ → RangeRef
var_at vars place = record { var = place; relation = relation_at (slice_get vars place) }

abbrev pub range_added : List Var → Ident → Option ℕ → Result (RangeRef × List Var) TextErr
range_added vars name None = Err (at name.spot what.NoRange)
range_added vars name (Some relation) =
    if nat_lt (length vars) 6 then Ok (record { var = length vars; relation = relation }, vars ++ record { name = name.text; relation = relation } ∷ [])
    else Err (at name.spot what.TooManyRanges)

abbrev pub range_named : List Heading → List Var → Ident → Result (RangeRef × List Var) TextErr
range_named headings vars name = range_added vars name (place_by (λ h. same h.name name.text) headings)

abbrev pub range_by : List Heading → List Var → Ident → Option ℕ → Result (RangeRef × List Var) TextErr
range_by headings vars name (Some place) = Ok (var_at vars place, vars)
range_by headings vars name None = range_named headings vars name

-- a range variable, which is added where it is a relation's name
abbrev pub range : List Heading → List Var → Ident → Result (RangeRef × List Var) TextErr
range headings vars name = range_by headings vars name (place_by (λ v. same v.name name.text) vars)

abbrev pub columns_of : List Heading → ℕ → List HeadColumn
columns_of headings relation = columns_at (slice_get headings relation)

abbrev pub layout_at : Option HeadColumn → LayoutColumn
layout_at None = truth
layout_at (Some c) = c.layout

abbrev pub column_by : List HeadColumn → ℕ → Ident → Option ℕ → Result Meant TextErr
column_by columns var col None = Err (at col.spot what.NoColumn)
column_by columns var col (Some place) = Ok (record { expr = ex.column var place; layout = layout_at (slice_get columns place) })

abbrev pub column_in : List HeadColumn → ℕ → Ident → Result Meant TextErr
column_in columns var col = column_by columns var col (place_by (λ c. same c.name col.text) columns)

abbrev pub column : List Heading → List Var → Ident → Ident → Result (Meant × List Var) TextErr
column headings vars var col = and_then (range headings vars var) (λ r vars. with_vars (λ m. m) vars (column_in (columns_of headings r.relation) r.var col))

abbrev pub with_type : Expression → Result LayoutColumn TextErr → Result Meant TextErr
with_type e (Ok c) = Ok (record { expr = e; layout = c })
with_type e (Err f) = Err f

abbrev pub meant_before : UnaryOp → Spot → Meant → Result Meant TextErr
meant_before op spot a = with_type (built_before op a.expr) (before op spot a.layout)

abbrev pub meant_between : BinaryOp → Spot → Meant → Meant → Result Meant TextErr
meant_between op spot a b = with_type (built_between op a.expr b.expr) (between op spot a.layout b.layout)

abbrev pub tested : Bool → Meant → Meant
tested negated a = record { expr = ex.is_null a.expr negated; layout = truth }

-- an expression with its type, and the range variables after it
abbrev pub checked : List Heading → List Var → Phrase → Result (Meant × List Var) TextErr
checked headings vars (phrase.Number n) = Ok (record { expr = ex.number n; layout = integer (nat_abs n) }, vars)
checked headings vars (phrase.Word w) = Ok (record { expr = ex.word w; layout = text_type }, vars)
checked headings vars (phrase.Truth b) = Ok (record { expr = ex.truth b; layout = truth }, vars)
checked headings vars (phrase.Dotted var col) = column headings vars var col
checked headings vars (phrase.Unary op spot e) = and_then (checked headings vars e) (λ a vars. with_vars (λ m. m) vars (meant_before op spot a))
checked headings vars (phrase.Binary op spot left right) =
    and_then (checked headings vars left) (λ a vars. and_then (checked headings vars right) (λ b vars. with_vars (λ m. m) vars (meant_between op spot a b)))
checked headings vars (phrase.IsNull spot e negated) = and_then (checked headings vars e) (λ a vars. Ok (tested negated a, vars))

-- the same for one that has no range variable
abbrev pub Gives : {A B : Type 0} → (A → B) → Result B TextErr → Result A TextErr → Type 0
Gives view outcome (Ok a) = outcome ≡ Ok (view a)
Gives view outcome (Err (Fault line col what)) = outcome ≡ Err (Fault line col what)
Gives view outcome (Err NoMemory) = Unit {0}
