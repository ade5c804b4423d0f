use Rattle.std.proofs.Common.{◌≡◌, ◌+◌, inr, refl, arith}
use Rattle.key_index.proofs.Looks.{at_start, ranked}
use Rattle.key_index.proofs.look.look_at_rank.Goals as goal

pub returns-in-None-clause-rules : goal.returns-in-None-clause-rules
returns-in-None-clause-rules c =
    let sum : c.from-2.result + c.from-3.result ≡ c.args.left + c.in_ok-step.step.count = omega (arith, c.from-2.ensures, c.from-3.ensures) in
    inr (refl, (c.from-2.result + c.from-3.result, ranked c.args.index.now c.args.left (c.from-2.result + c.from-3.result) c.args.aim c.args.bytes.now c.in_ok-step.step (at_start c.args.index.now 0 c.from.result c.args.left c.args.aim c.args.bytes.now c.in_ok-step.step c.from.ensures c.in_ok-step.ensures) sum, c.in-None.ensures))
