use Rattle.std.proofs.Common.{map}
use Rattle.postquel_tokens.specs.Forms.{sentence_of}
use Rattle.std.proofs.Common.{◌≡◌, ◌-◌}
use Rattle.postquel.specs.Loop.{turns}
use Rattle.postquel.specs.Script.{statements, next_statement}
use Rattle.postquel.proofs.parser.statements.Given as goal

abbrev pub invariant-loop-turn : goal.invariant-loop-turn
invariant-loop-turn l = statements l.fn.cursor ≡ turns (next_statement) (l._turn-end - l._turn) (map sentence_of l.found.items) l.cursor
