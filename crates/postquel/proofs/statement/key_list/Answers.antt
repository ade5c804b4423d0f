use Rattle.std.proofs.Common.{rules, arith}
use Rattle.std.proofs.lemmas.Grind.{common_steps}
use Rattle.postquel.specs.Loop.{turns, next_item}
use Rattle.postquel.specs.Script.{sort_key}
use Rattle.postquel.proofs.Turns.{one_more}
use Rattle.postquel.proofs.statement.key_list.Goals as goal

pub returns-in_default : goal.returns-in_default
unfolding turns
returns-in_default c =
    let e = one_more (λ n. turns (next_item sort_key) n c.loop-turn.found.items c.loop-turn.cursor) _ c.loop-turn._turn c.loop-turn-test.true c.loop-turn.invariant in
    first_of (search rules, grind (arith, common_steps))

pub loop-turn-preserved : goal.loop-turn-preserved
unfolding turns
loop-turn-preserved c =
    let e = one_more (λ n. turns (next_item sort_key) n c.loop-turn.found.items c.loop-turn.cursor) _ c.loop-turn._turn c.loop-turn-test.true c.loop-turn.invariant in
    first_of (search rules, grind (arith, common_steps))
