use Rattle.postquel_tokens.specs.Forms.{phrase_of}
use Rattle.std.proofs.Common.{rules, arith}
use Rattle.std.proofs.lemmas.Grind.{common_steps}
use Rattle.postquel.specs.Grammar as spec
use Rattle.postquel.specs.Grammar.{climb, chained}
use Rattle.postquel.proofs.Turns.{one_more}
use Rattle.postquel.proofs.grammar.+form.Goals as goal

pub chained-loop-turn-preserved : goal.chained-loop-turn-preserved
unfolding climb
chained-loop-turn-preserved t c =
    let e = one_more (λ n. climb c.args.level (spec.form_at (spec.nested c.args.depth) (spec.next c.args.level)) n (phrase_of c.loop-turn.left) c.loop-turn.cursor) _ c.loop-turn._turn c.loop-turn-test.true c.loop-turn.invariant in
    first_of (search rules, grind (arith, common_steps))
