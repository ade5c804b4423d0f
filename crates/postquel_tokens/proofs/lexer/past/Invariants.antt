use Rattle.std.proofs.Common.{◌≡◌, ◌+◌, ◌≤◌, take}
use Rattle.std.specs.Prelude.{fold}
use Rattle.postquel_tokens.specs.Lex.{after}
use Rattle.postquel_tokens.proofs.lexer.past.Given as goal

abbrev pub invariant-loop-b : goal.invariant-loop-b
invariant-loop-b l = record { value : l.place ≡ fold after l.fn.spot (take l.b-index l.bytes); line : l.place.line ≤ l.fn.spot.line + l.b-index; col : l.place.col ≤ l.fn.spot.col + l.b-index; positive : 1 ≤ l.place.col }
