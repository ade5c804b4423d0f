use Rattle.std.proofs.Common.{◌≡◌, ◌+◌, ◌-◌, ◌≤◌, length, drop}
use Rattle.postquel_tokens.specs.Lex.{tokens_from, tokens_of}
use Rattle.postquel_tokens.proofs.Fronts.{in_front}
use Rattle.postquel_tokens.proofs.lexer.tokens.Given as goal

abbrev pub invariant-loop-at : goal.invariant-loop-at
invariant-loop-at l = record {
  same : in_front l.found.items (tokens_from 0 l.spot (drop l.at l.text)) ≡ tokens_of l.text;
  place : l.at ≤ length l.text;
  line : l.spot.line ≤ l.at + 1;
  col : l.spot.col ≤ l.at + 1;
  positive : 1 ≤ l.spot.col;
}

abbrev pub decreases-loop-at : goal.decreases-loop-at
decreases-loop-at l = length l.text - l.at
