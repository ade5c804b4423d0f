use Rattle.std.proofs.Common.{◌≡◌, ◌-◌}
use Rattle.postquel.specs.Loop.{turns, listed, next_item}
use Rattle.postquel.specs.Script.{step}
use Rattle.postquel.proofs.parser.step_list.Given as goal

abbrev pub invariant-loop-turn : goal.invariant-loop-turn
invariant-loop-turn l = listed step l.fn.cursor ≡ turns (next_item step) (l._turn-end - l._turn) l.found.items l.cursor
