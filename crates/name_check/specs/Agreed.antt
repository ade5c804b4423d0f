-- What the steps of the check have to do with the whole statement's range variables.
use Rattle.std.specs.Prelude.{◌≡◌, ◌≤◌, ◌<◌, List, length, slice_get, Some, None, Result, Ok, Err}
use Rattle.postquel_tokens.specs.declared.form.Ident.{Ident}
use Rattle.postquel_tokens.specs.declared.fault.TextErr.{TextErr}
use Rattle.postquel_tokens.specs.Forms.{Phrase}
use Rattle.rel_meaning.specs.declared.query.Var.{Var}
use Rattle.rel_meaning.specs.Typing.{type_of}
use Rattle.name_check.specs.declared.heading.Heading.{Heading}
use Rattle.name_check.specs.declared.checking.RangeRef.{RangeRef}
use Rattle.name_check.specs.Checked.{Meant}
use Rattle.name_check.specs.Faults.{fault_in, meaning_in, column_type, var_named, range_fault}

-- an expression has no fault, means this and has this type
pub record Fits (headings : List Heading) (vars : List Var) (e : Phrase) (m : Meant) : Type 0 where
  pub free : fault_in headings vars e ≡ None
  pub means : meaning_in headings vars e ≡ m.expr
  pub typed : type_of m.expr (column_type headings vars) ≡ Some m.layout

pub record Grew (vars now : List Var) : Type 0 where
  pub same : vars ≡ now
  pub few : length now ≤ 6

abbrev pub Agrees : List Heading → List Var → List Var → Phrase → Result (Meant × List Var) TextErr → Type 0
Agrees headings vars now e (Ok p) = Fits headings vars e p.0 × Grew p.1 now
Agrees headings vars now e (Err f) = fault_in headings vars e ≡ Some f

pub record RangeFits (vars : List Var) (name : Ident) (r : RangeRef) : Type 0 where
  pub named : var_named vars name.text ≡ Some r.var
  pub low : r.var < 6
  pub var : Var
  pub there : slice_get vars r.var ≡ Some var
  pub relation : var.relation ≡ r.relation

abbrev pub RangeAgrees : List Var → List Var → Ident → Result (RangeRef × List Var) TextErr → Type 0
RangeAgrees vars now name (Ok p) = RangeFits vars name p.0 × Grew p.1 now
RangeAgrees vars now name (Err f) = range_fault vars name ≡ Some f
