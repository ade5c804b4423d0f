use Rattle.std.proofs.Common.{rules, arith}
use Rattle.std.proofs.lemmas.List.{length-drop, take_rest}
use Rattle.postquel_tokens.specs.Lex.{body}
use Rattle.postquel_tokens.proofs.Bodies.{unit_at}
use Rattle.postquel_tokens.proofs.piece.body.Goals as goal

pub loop-at-preserved : goal.loop-at-preserved
loop-at-preserved c =
    let z = c.args.z.now in
    let value = rw (take_rest z c.loop-at.at) at c.in_ok-c.ensures.value in
    let within = rw (take_rest z c.loop-at.at) at c.in_ok-c.ensures.within.1 in
    record {
      same = rw c.in_ok-push.ensures.items (unit_at c.loop-at.text.items z c.loop-at.at c.in_ok-c.c c.in_ok-c.len (body 1 z) c.loop-at-test.true (search rules) value c.in_ok-c.ensures.within.0 within c.loop-at.invariant.same);
      place = omega (arith, within, length-drop c.loop-at.at z);
    }
