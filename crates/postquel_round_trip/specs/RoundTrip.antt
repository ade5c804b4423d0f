-- What is read, printed and read again.
use Rattle.std.specs.Prelude.{◌≡◌, ◌<◌, ◌-◌, ◌^◌, List, length, ℕ, Ok}
use Rattle.postquel_tokens.specs.declared.token.Token.{Token}
use Rattle.postquel_tokens.specs.Lex.{lex_of}
use Rattle.postquel.specs.Program.{Program}
use Rattle.postquel.specs.Print.{script_text}
use Rattle.postquel.specs.Reading.{IsReading}
use Rattle.postquel_round_trip.specs.Bare.{bare}

-- the tokens of this text are this script
pub record Reads (text : List ℕ) (script : Program) : Type 0 where
  pub tokens : List Token
  pub lexes : lex_of text ≡ Ok tokens
  pub reads : IsReading tokens (Ok script)

-- some text is read as this script
pub record IsRead (script : Program) : Type 0 where
  pub text : List ℕ
  pub reads : Reads text script

-- The script prints as a text that is read as the same script but for places. The text is short
-- enough to be read: each line and column is a number below 2 ^ 32.
pub record PrintsBack (script : Program) : Type 0 where
  pub again : Program
  pub short : length (script_text script) < 2 ^ 32 - 1
  pub reads : Reads (script_text script) again
  pub same : bare again ≡ bare script

-- each script that is read prints so
abbrev pub RoundTrip : Type 0
RoundTrip = (script : Program) → IsRead script → PrintsBack script
