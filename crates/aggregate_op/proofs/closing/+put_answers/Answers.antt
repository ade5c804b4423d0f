use Rattle.std.proofs.Common.{◌≡◌, ◌∷◌, Some, drop, rules}
use Rattle.std.proofs.lemmas.Result.{IfOk-weaker}
use Rattle.aggregate_op.specs.Closing.{closed_part}
use Rattle.aggregate_op.specs.Joined.{part_width}
use Rattle.aggregate_op.proofs.ClosedGroups.{answers_more}
use Rattle.aggregate_op.proofs.closing.+put_answers.Goals as goal

pub returns : goal.returns
returns t c =
    let first : c.args.ops.now ≡ c.in-Some.op.now ∷ c.in-Some.ops.now = search rules in
    let answer : Some c.in-Some-2.answer ≡ closed_part c.in-Some.op.now c.args.parts.now = search rules in
    let rest : c.behind.result.now ≡ drop (part_width c.in-Some.op.now) c.args.parts.now = search rules in
    IfOk-weaker c.put_answers.result _ _
    (λ whole e. answers_more c.args.ops.now _ _ c.args.parts.now _ _ c.args.answers.now.items _ _ first answer c.in_ok-push.ensures.items rest e)
    c.put_answers.ensures
