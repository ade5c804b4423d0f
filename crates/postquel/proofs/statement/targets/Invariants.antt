use Rattle.std.proofs.Common.{map}
use Rattle.postquel_tokens.specs.Forms.{wish_of}
use Rattle.std.proofs.Common.{◌≡◌, ◌-◌}
use Rattle.postquel.specs.Loop.{turns, listed, next_item}
use Rattle.postquel.specs.Script.{target}
use Rattle.postquel.proofs.statement.targets.Given as goal

abbrev pub invariant-loop-turn : goal.invariant-loop-turn
invariant-loop-turn l = listed target l.fn.cursor ≡ turns (next_item target) (l._turn-end - l._turn) (map wish_of l.found.items) l.cursor
