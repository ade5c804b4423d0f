-- The forms of a script, without where they lie in memory.
use Rattle.std.specs.Prelude.{ℕ, ℤ, Bool, List, Option, map}
use Rattle.std.specs.Option.{option_map}
use Rattle.postquel_tokens.specs.declared.fault.Spot.{Spot}
use Rattle.postquel_tokens.specs.declared.form.Ident.{Ident}
use Rattle.postquel_tokens.specs.declared.form.UnaryOp.{UnaryOp}
use Rattle.postquel_tokens.specs.declared.form.BinaryOp.{BinaryOp}
use Rattle.postquel_tokens.specs.declared.form.Form.{Form, Unary', Binary', IsNull'}
use Rattle.postquel_tokens.specs.declared.form.Form as f
use Rattle.postquel_tokens.specs.declared.form.TargetForm.{TargetForm}
use Rattle.postquel_tokens.specs.declared.form.TargetForm.TheVariants as target
use Rattle.postquel_tokens.specs.declared.form.TestForm.{TestForm}
use Rattle.postquel_tokens.specs.declared.form.RangeForm.{RangeForm}
use Rattle.postquel_tokens.specs.declared.form.KeyForm.{KeyForm}
use Rattle.postquel_tokens.specs.declared.form.IntoForm.{IntoForm}
use Rattle.postquel_tokens.specs.declared.form.Statement.{Statement}

pub data Phrase : Type 0 where
  Number : ℤ → Phrase
  Word : List ℕ → Phrase
  Truth : Bool → Phrase
  Dotted : Ident → Ident → Phrase
  Unary : UnaryOp → Spot → Phrase → Phrase
  Binary : BinaryOp → Spot → Phrase → Phrase → Phrase
  IsNull : Spot → Phrase → Bool → Phrase

abbrev pub phrase_of : Form → Phrase
phrase_of (f.Number n) = Number n
phrase_of (f.Word w) = Word w
phrase_of (f.Truth b) = Truth b
phrase_of (f.Dotted var col) = Dotted var col
phrase_of (Unary' op spot p e) = Unary op spot (phrase_of e)
phrase_of (Binary' op spot p left q right) = Binary op spot (phrase_of left) (phrase_of right)
phrase_of (IsNull' spot p e negated) = IsNull spot (phrase_of e) negated

-- a target: a named expression, all columns of a variable, one column, or a fold
pub data Wish : Type 0 where
  Titled : Ident → Phrase → Wish
  Every : Ident → Wish
  Column : Ident → Ident → Wish
  Folded : Ident → Ident → Phrase → Wish

abbrev pub wish_of : TargetForm → Wish
wish_of (target.Named name form) = Titled name (phrase_of form)
wish_of (target.All var) = Every var
wish_of (target.Dotted var col) = Column var col
wish_of (target.Fold name fold form) = Folded name fold (phrase_of form)

pub record Condition : Type 0 where
  pub spot : Spot
  pub phrase : Phrase

abbrev pub condition_of : TestForm → Condition
condition_of test = record { spot = test.spot; phrase = phrase_of test.form }

pub record Sentence : Type 0 where
  pub unique : Bool
  pub kept : Option IntoForm
  pub wishes : List Wish
  pub ranges : List RangeForm
  pub test : Option Condition
  pub keys : List KeyForm

abbrev pub sentence_of : Statement → Sentence
sentence_of s = record { unique = s.unique; kept = s.into; wishes = map wish_of s.targets; ranges = s.ranges; test = option_map condition_of s.test; keys = s.keys }
