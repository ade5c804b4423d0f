use Rattle.std.proofs.Common.{◌≡◌, ◌-◌}
use Rattle.postquel.specs.Loop.{turns, listed, next_item}
use Rattle.postquel.specs.Script.{sort_key}
use Rattle.postquel.proofs.statement.key_list.Given as goal

abbrev pub invariant-loop-turn : goal.invariant-loop-turn
invariant-loop-turn l = listed sort_key l.fn.cursor ≡ turns (next_item sort_key) (l._turn-end - l._turn) l.found.items l.cursor
