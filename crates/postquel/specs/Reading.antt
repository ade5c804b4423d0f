-- What the tokens of a text are: a script, or the first fault with its place.
use Rattle.std.specs.Prelude.{◌≡◌, ◌⊎◌, ◌≢◌, ◌≤◌, ℕ, List, [], ◌∷◌, ◌++◌, length, Some, Result, Ok, Err}
use Rattle.postquel_tokens.specs.declared.fault.Spot.{Spot}
use Rattle.postquel_tokens.specs.declared.token.Token.{Token}
use Rattle.postquel_tokens.specs.declared.fault.What.{What}
use Rattle.postquel_tokens.specs.declared.fault.What.TheVariants as what
use Rattle.postquel.specs.declared.class.Class.TheVariants as class
use Rattle.postquel_tokens.specs.declared.token.Sign.TheVariants as sign
use Rattle.postquel.specs.Program.{Program}
use Rattle.postquel_tokens.specs.declared.fault.TextErr.{TextErr}
use Rattle.postquel_tokens.specs.declared.fault.TextErr.TheVariants.{Fault, NoMemory}
use Rattle.postquel_tokens.specs.Lex.{lex_of}
use Rattle.postquel.specs.Limits.{room, bar}
use Rattle.postquel.specs.Start.{none_yet}
use Rattle.postquel.specs.Class.{looks}
use Rattle.postquel.specs.Syntax.{nest}
use Rattle.postquel.specs.Statement.{IsScript}

-- all tokens, and one end behind them
abbrev pub NoEnd : List Token → Type 0
NoEnd [] = Unit {0}
NoEnd (t ∷ ts) = (looks t ≢ class.End) × NoEnd ts

pub record IsText (all : List Token) : Type 0 where
  pub tokens : List Token
  pub end : Token
  pub parts : all ≡ tokens ++ end ∷ []
  pub no_end : NoEnd tokens
  pub is_end : looks end ≡ class.End

-- some script begins with these tokens
pub record Begins (used : List Token) : Type 0 where
  pub script : Program
  pub more : List Token
  pub is : IsScript script (used ++ more)

-- no limit is passed by these tokens: those on counts, and that on open parentheses
pub record Free (all used : List Token) : Type 0 where
  pub counts : length used ≤ room none_yet all
  pub left : ℕ
  pub nests : nest 32 used ≡ Some left

pub record Whole (all : List Token) (s : Program) : Type 0 where
  pub text : IsText all
  pub is : IsScript s text.tokens
  pub free : Free all text.tokens

-- the token goes on with no script
pub record IsUnexpected (used : List Token) (t : Token) : Type 0 where
  pub none : (s : Program) (w : List Token) → IsScript s (used ++ t ∷ w) → ⊥
  pub unfinished : looks t ≡ class.End → (s : Program) → IsScript s used → ⊥

-- the token is the 33rd open parenthesis, or else the one that passes the limit on counts
abbrev pub Passes : List Token → List Token → Token → What → Type 0
Passes all used t w = (looks t ≢ class.End) × (((w ≡ what.TooDeep) × (looks t ≡ class.Mark sign.Left) × (nest 32 used ≡ Some 0)) ⊎ ((w ≡ bar none_yet all) × (room none_yet all ≡ length used) × (looks t ≡ class.Mark sign.Left → nest 32 used ≡ Some 0 → ⊥)))

pub record Faulty (all : List Token) (w : What) (place : Spot) : Type 0 where
  pub used : List Token
  pub token : Token
  pub rest : List Token
  pub parts : all ≡ used ++ token ∷ rest
  pub there : place ≡ token.spot
  pub free : Free all used
  pub begins : Begins used
  pub why : ((w ≡ what.Unexpected) × IsUnexpected used token) ⊎ (Begins (used ++ token ∷ []) × Passes all used token w)

-- what the tokens are: a script, or the first fault and its place
abbrev pub IsReading : List Token → Result Program (What × Spot) → Type 0
IsReading all (Ok s) = Whole all s
IsReading all (Err f) = Faulty all f.0 f.1

-- what was read is that, unless memory ran out
abbrev pub Tells : List Token → Result Program TextErr → Type 0
Tells all (Ok s) = IsReading all (Ok s)
Tells all (Err (Fault line col w)) = IsReading all (Err (w, record { line = line; col = col }))
Tells all (Err NoMemory) = Unit {0}

-- the tokens of some text
pub record IsLexed (all : List Token) : Type 0 where
  pub text : List ℕ
  pub gives : lex_of text ≡ Ok all

-- a list of tokens has one reading
abbrev pub OneReading : Type 0
OneReading = (all : List Token) (a b : Result Program (What × Spot)) → IsReading all a → IsReading all b → a ≡ b
