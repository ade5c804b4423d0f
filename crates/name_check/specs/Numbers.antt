-- The numbers of a script that was read from a text.
use Rattle.std.specs.Prelude.{All, List, Ok}
use Rattle.postquel_tokens.specs.declared.token.Token.{Token}
use Rattle.postquel.specs.Program.{Program}
use Rattle.postquel.specs.Reading.{IsLexed, IsReading}
use Rattle.name_check.specs.Sentences.{HasNumbers}

-- what the tokens of a text are read as has numbers from 0 to 2^63 - 1
abbrev pub ReadNumbers : Type 0
ReadNumbers = (all : List Token) (script : Program) → IsLexed all → IsReading all (Ok script) → All HasNumbers script.sentences
