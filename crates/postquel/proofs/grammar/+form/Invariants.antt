use Rattle.postquel_tokens.specs.Forms.{phrase_of}
use Rattle.std.proofs.Common.{◌≡◌, ◌+◌, ◌*◌, ◌-◌}
use Rattle.postquel.specs.Grammar as spec
use Rattle.postquel.proofs.grammar.+form.Given as goal

abbrev pub decreases-atom : goal.decreases-atom
decreases-atom l = 30 * l.depth + 1

abbrev pub decreases-chained : goal.decreases-chained
decreases-chained l = 30 * l.depth + 3 * spec.rank l.level + 1

abbrev pub decreases-compared : goal.decreases-compared
decreases-compared l = 30 * l.depth + 13

abbrev pub decreases-form : goal.decreases-form
decreases-form l = 30 * l.depth + 3 * spec.rank l.level + 2

abbrev pub decreases-nested : goal.decreases-nested
decreases-nested l = 30 * l.depth

abbrev pub decreases-prefixed : goal.decreases-prefixed
decreases-prefixed l = 30 * l.depth + 3 * spec.rank l.level + 1

abbrev pub invariant-chained-loop-turn : goal.invariant-chained-loop-turn
invariant-chained-loop-turn l =
    spec.chained l.level (spec.form_at (spec.nested l.depth) (spec.next l.level)) l.fn.cursor
    ≡ spec.climb l.level (spec.form_at (spec.nested l.depth) (spec.next l.level)) (l._turn-end - l._turn) (phrase_of l.left) l.cursor
