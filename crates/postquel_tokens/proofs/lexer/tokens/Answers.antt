use Rattle.std.proofs.Common.{arith, ◌≡◌, ◌∙◌, refl, ◌+◌, ◌-◌, sym, get_or, drop}
use Rattle.std.proofs.lemmas.List.{length-drop, length-take, take_rest}
use Rattle.postquel_tokens.specs.Lex.{tokens_of, tokens_from, start}
use Rattle.postquel_tokens.proofs.Fronts.{front_none, piece_step}
use Rattle.postquel_tokens.proofs.lexer.tokens.Goals as goal

pub loop-at-init : goal.loop-at-init
unfolding tokens_of
loop-at-init c = record { same = rw c.new-found.ensures.items (front_none (tokens_from 0 start c.args.text.now)); place = omega arith; line = omega arith; col = omega arith; positive = omega arith }

pub loop-at-preserved : goal.loop-at-preserved
loop-at-preserved c =
    let text = c.args.text.now in
    let at = c.loop-at.at in
    let value = rw (take_rest text at) at c.in-Ok.ensures.value in
    let within = rw (take_rest text at) at c.in-Ok.ensures.within.1 in
    let len = c.in-Ok.found.1 in
    let cut : at + len - at ≡ len = omega arith in
    let place = rw cut at c.past-spot.ensures.value in
    let line = rw cut at c.past-spot.ensures.line in
    let col = rw cut at c.past-spot.ensures.col in
    let plain = sym c.is_blank.ensures ∙ c.if-is_blank.false in
    record {
      same = rw (c.in_ok-push.ensures.items, place) (piece_step c.loop-at.found.items c.loop-at.spot text at (get_or text at 0) c.in-Ok.found.0 len (tokens_of text) c.loop-at-test.true refl plain value c.in-Ok.ensures.within.0 within c.loop-at.invariant.same);
      place = omega (arith, within, length-drop at text);
      line = omega (arith, line, length-take len (drop at text));
      col = omega (arith, col, length-take len (drop at text));
      positive = c.past-spot.ensures.positive;
    }
