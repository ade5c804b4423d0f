use Rattle.std.proofs.Common.{◌≡◌, ◌-◌}
use Rattle.postquel.specs.Loop.{turns, listed, next_item}
use Rattle.postquel.specs.Script.{range}
use Rattle.postquel.proofs.statement.range_list.Given as goal

abbrev pub invariant-loop-turn : goal.invariant-loop-turn
invariant-loop-turn l = listed range l.fn.cursor ≡ turns (next_item range) (l._turn-end - l._turn) l.found.items l.cursor
