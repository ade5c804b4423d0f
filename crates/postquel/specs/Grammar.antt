-- Expressions, by recursive descent.
use Rattle.std.specs.Prelude.{ℕ, zero, suc, ℤ, pos, Bool, true, false, List, [], length, Option, Some, None}
use Rattle.postquel_tokens.specs.declared.fault.What.TheVariants as what
use Rattle.postquel_tokens.specs.declared.token.TokenKind.{TokenKind}
use Rattle.postquel_tokens.specs.declared.token.TokenKind.TheVariants as kind
use Rattle.postquel_tokens.specs.declared.token.Token.{Token}
use Rattle.postquel.specs.declared.class.Class.{Class}
use Rattle.postquel.specs.declared.class.Class.TheVariants as class
use Rattle.postquel_tokens.specs.declared.name.Key.TheVariants as key
use Rattle.postquel_tokens.specs.declared.token.Sign.TheVariants as sign
use Rattle.postquel_tokens.specs.declared.form.Ident.{Ident}
use Rattle.postquel_tokens.specs.declared.form.UnaryOp.{UnaryOp}
use Rattle.postquel_tokens.specs.declared.form.BinaryOp.{BinaryOp}
use Rattle.postquel_tokens.specs.Forms.{Phrase}
use Rattle.postquel_tokens.specs.Forms as form
use Rattle.postquel.specs.declared.level.Level.{Level}
use Rattle.postquel.specs.declared.level.Level.TheVariants as level
use Rattle.postquel.specs.Level as levels
use Rattle.postquel.specs.Input.{Parser, ◌>>=◌, ◌>>◌, pure, stop, peek, take, expect, expect_key, or_none}

abbrev pub next : Level → Level
next = levels.next

-- how many levels there are below
abbrev pub rank : Level → ℕ
rank level.Or = 7
rank level.And = 6
rank level.Not = 5
rank level.Comparison = 4
rank level.Sum = 3
rank level.Product = 2
rank level.Sign = 1
rank level.Atom = 0

abbrev pub number_of : TokenKind → ℤ
number_of (kind.Number n) = n
number_of _ = pos 0

abbrev pub text_of : TokenKind → List ℕ
text_of (kind.Name text) = text
text_of (kind.Word text) = text
text_of _ = []

abbrev pub ident_of : Token → Ident
ident_of t = record { text = text_of t.kind; spot = t.spot }

abbrev pub ident_by : Class → Parser Ident
ident_by (class.Name s) = take >>= λ t. pure (ident_of t)
ident_by _ = stop what.Unexpected

unfoldable pub ident : Parser Ident
ident = peek >>= ident_by

unfoldable pub dotted : Parser Phrase
dotted = do
  var ← ident
  expect sign.Dot
  col ← ident
  pure (form.Dotted var col)

abbrev pub leaf_by : Class → Parser Phrase
leaf_by class.Number = take >>= λ t. pure (form.Number (number_of t.kind))
leaf_by class.Word = take >>= λ t. pure (form.Word (text_of t.kind))
leaf_by (class.Key key.True) = take >> pure (form.Truth true)
leaf_by (class.Key key.False) = take >> pure (form.Truth false)
leaf_by _ = dotted

-- an expression of one token, or of a name, a dot and a name
unfoldable pub leaf : Parser Phrase
leaf = peek >>= leaf_by

abbrev pub atom_by : Parser Phrase → Class → Parser Phrase
atom_by nested (class.Mark sign.Left) = nested
atom_by nested _ = leaf

unfoldable pub atom : Parser Phrase → Parser Phrase
atom nested = peek >>= atom_by nested

abbrev pub prefixed_by : Parser Phrase → Option UnaryOp → Parser Phrase
prefixed_by operand None = operand
prefixed_by operand (Some op) = do
  t ← take
  f ← operand
  pure (form.Unary op t.spot f)

unfoldable pub prefixed : Level → Parser Phrase → Parser Phrase
prefixed level operand = peek >>= λ c. prefixed_by operand (levels.before level c)

-- goes on behind an operand, where an operator comes
abbrev pub longer_by : Parser Phrase → (Phrase → Parser Phrase) → Phrase → Option BinaryOp → Parser Phrase
longer_by operand more left None = pure left
longer_by operand more left (Some op) = do
  t ← take
  right ← operand
  more (form.Binary op t.spot left right)

-- whether `not` stands there
unfoldable pub denial : Parser Bool
denial = or_none false key.Not (take >> pure true)

-- goes on behind the first operand of a comparison, where `is` comes
unfoldable pub null_test : Phrase → Parser Phrase
null_test operand = do
  t ← take
  negated ← denial
  expect_key key.Null
  pure (form.IsNull t.spot operand negated)

abbrev pub compared_by : Parser Phrase → Phrase → Class → Parser Phrase
compared_by operand left (class.Key key.Is) = null_test left
compared_by operand left c = longer_by operand pure left (levels.between level.Comparison c)

unfoldable pub compared : Parser Phrase → Parser Phrase
compared operand = operand >>= λ left. peek >>= compared_by operand left

unfoldable pub climb : Level → Parser Phrase → ℕ → Phrase → Parser Phrase
climb level operand zero left = pure left
climb level operand (suc n) left = peek >>= λ c. longer_by operand (climb level operand n) left (levels.between level c)

-- each turn takes a token
unfoldable pub chained : Level → Parser Phrase → Parser Phrase
chained level operand = operand >>= λ left i. climb level operand (length i.rest) left i

-- the rules, over what stands in parentheses
module _ (nested : Parser Phrase) where
  abbrev pub sign_form : Parser Phrase
  sign_form = prefixed level.Sign (atom nested)

  abbrev pub product : Parser Phrase
  product = chained level.Product sign_form

  abbrev pub sum : Parser Phrase
  sum = chained level.Sum product

  abbrev pub comparison : Parser Phrase
  comparison = compared sum

  abbrev pub negation : Parser Phrase
  negation = prefixed level.Not comparison

  abbrev pub conjunction : Parser Phrase
  conjunction = chained level.And negation

  abbrev pub disjunction : Parser Phrase
  disjunction = chained level.Or conjunction

  abbrev pub form_at : Level → Parser Phrase
  form_at level.Or = disjunction
  form_at level.And = conjunction
  form_at level.Not = negation
  form_at level.Comparison = comparison
  form_at level.Sum = sum
  form_at level.Product = product
  form_at level.Sign = sign_form
  form_at level.Atom = atom nested

-- a form in parentheses, of which so many may still open
unfoldable pub nested : ℕ → Parser Phrase
nested zero = stop what.TooDeep
nested (suc depth) = do
  take
  f ← disjunction (nested depth)
  expect sign.Right
  pure f
