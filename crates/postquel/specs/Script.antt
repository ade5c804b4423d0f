-- Statements and scripts, by recursive descent.
use Rattle.std.specs.Prelude.{Bool, true, false, List, [], ◌∷◌, ◌++◌, Option, Some, None}
use Rattle.postquel_tokens.specs.declared.fault.What.TheVariants as what
use Rattle.postquel_tokens.specs.declared.token.Token.{Token}
use Rattle.postquel_tokens.specs.declared.token.Sign.TheVariants as sign
use Rattle.postquel_tokens.specs.declared.form.Ident.{Ident}
use Rattle.postquel_tokens.specs.declared.form.RangeForm.{RangeForm}
use Rattle.postquel_tokens.specs.declared.form.KeyForm.{KeyForm}
use Rattle.postquel_tokens.specs.declared.form.IntoForm.{IntoForm}
use Rattle.postquel_tokens.specs.declared.form.StepForm.{StepForm}
use Rattle.postquel_tokens.specs.Forms.{Wish, Titled, Every, Column, Folded, Condition, Sentence}
use Rattle.postquel.specs.declared.class.Class.{Class}
use Rattle.postquel.specs.declared.class.Class.TheVariants as class
use Rattle.postquel_tokens.specs.declared.name.Key.TheVariants as key
use Rattle.postquel.specs.declared.class.Soft.TheVariants as soft
use Rattle.postquel.specs.Program.{Program}
use Rattle.postquel.specs.Input.{Parser, ◌>>=◌, ◌>>◌, pure, stop, peek, take, first, second, expect, expect_key, or_none}
use Rattle.postquel.specs.Loop.{repeat, listed}
use Rattle.postquel.specs.Grammar.{ident, number_of, disjunction, nested}

unfoldable pub titled : Ident → Parser Wish
titled name = do
  f ← disjunction (nested 31)
  pure (Titled name f)

unfoldable pub folded : Ident → Parser Wish
folded name = do
  fold ← ident
  expect sign.Left
  f ← disjunction (nested 30)
  expect sign.Right
  pure (Folded name fold f)

-- a fold's name begins a fold directly before a parenthesis alone
abbrev pub value_by : Ident → Class → Class → Parser Wish
value_by name (class.Name soft.Fold) (class.Mark sign.Left) = folded name
value_by name _ _ = titled name

unfoldable pub value_of : Ident → Parser Wish
value_of name = λ i. value_by name (first i.rest) (second i.rest) i

abbrev pub columns_by : Ident → Class → Parser Wish
columns_by var (class.Key key.All) = take >> pure (Every var)
columns_by var _ = ident >>= λ col. pure (Column var col)

unfoldable pub columns_of : Ident → Parser Wish
columns_of var = peek >>= columns_by var

abbrev pub target_by : Ident → Class → Parser Wish
target_by name (class.Mark sign.Equal) = take >> value_of name
target_by name (class.Mark sign.Dot) = take >> columns_of name
target_by _ _ = stop what.Unexpected

unfoldable pub target : Parser Wish
target = ident >>= λ name. peek >>= target_by name

unfoldable pub range : Parser RangeForm
range = do
  var ← ident
  expect_key key.In
  relation ← ident
  pure (record { var = var; relation = relation })

abbrev pub direction_by : Class → Parser Bool
direction_by (class.Mark sign.More) = take >> pure true
direction_by (class.Mark sign.Less) = take >> pure false
direction_by _ = stop what.Unexpected

-- whether greater values come first
unfoldable pub direction : Parser Bool
direction = or_none false key.Using (take >>= λ t. peek >>= direction_by)

unfoldable pub sort_key : Parser KeyForm
sort_key = do
  target ← ident
  down ← direction
  pure (record { target = target; down = down })

abbrev pub number_by : Class → Parser Token
number_by class.Number = take
number_by _ = stop what.Unexpected

unfoldable pub number : Parser Token
number = peek >>= number_by

abbrev pub after_by : Class → Parser (Unit {0})
after_by (class.Name soft.After) = take >> pure tt
after_by _ = stop what.Unexpected

unfoldable pub after_word : Parser (Unit {0})
after_word = peek >>= after_by

unfoldable pub step : Parser StepForm
step = do
  backends ← number
  after_word
  finished ← number
  pure (record { backends = number_of backends.kind; backends_spot = backends.spot; after = number_of finished.kind; after_spot = finished.spot })

unfoldable pub unique : Parser Bool
unique = or_none false key.Unique (take >> pure true)

unfoldable pub kept : Parser (Option IntoForm)
kept = or_none None key.Into (take >>= λ t. ident >>= λ name. pure (Some (record { spot = t.spot; name = name })))

unfoldable pub ranges : Parser (List RangeForm)
ranges = or_none [] key.From (take >> listed range)

unfoldable pub test : Parser (Option Condition)
test = or_none None key.Where (take >>= λ t. disjunction (nested 32) >>= λ f. pure (Some (record { spot = t.spot; phrase = f })))

unfoldable pub keys : Parser (List KeyForm)
keys = or_none [] key.Sort (take >>= λ t. expect_key key.By >> listed sort_key)

-- a statement behind its targets
unfoldable pub closing : Bool → Option IntoForm → List Wish → Parser Sentence
closing u k ws = do
  expect sign.Right
  rs ← ranges
  t ← test
  ks ← keys
  expect sign.Go
  pure (record { unique = u; kept = k; wishes = ws; ranges = rs; test = t; keys = ks })

unfoldable pub statement : Parser Sentence
statement = do
  expect_key key.Retrieve
  u ← unique
  k ← kept
  expect sign.Left
  ws ← listed target
  closing u k ws

abbrev pub next_statement : List Sentence → Class → Option (Parser (List Sentence))
next_statement found class.End = None
next_statement found _ = Some (statement >>= λ s. pure (found ++ s ∷ []))

unfoldable pub statements : Parser (List Sentence)
statements = repeat next_statement []

unfoldable pub machine : Parser (List StepForm)
machine = or_none [] key.Machine (take >>= λ t. listed step >>= λ steps. expect sign.Go >> pure steps)

unfoldable pub script : Parser Program
script = do
  steps ← machine
  ss ← statements
  pure (record { steps = steps; sentences = ss })
