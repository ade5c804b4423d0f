use Rattle.std.proofs.Common.{◌≡◌, ◌≤◌, ◌∙◌, true, false, sym, rules, length, arith}
use Rattle.std.proofs.lemmas.Bool.Decides.{nat_tests}
use Rattle.std.proofs.lemmas.Grind.{common_steps}
use Rattle.postquel_tokens.specs.Forms.{sentence_of}
use Rattle.name_check.specs.Sentences.{has_fold}
use Rattle.name_check.proofs.Any.{any_map}
use Rattle.name_check.proofs.Rest.{any_here, any_later, any_end}
use Rattle.name_check.proofs.parts.has_fold.Goals as goal

pub returns-then-folds : goal.returns-then-folds
returns-then-folds c =
    let here : has_fold (sentence_of c.get.result.now) ≡ true = first_of (cc, search rules) in
    sym (any_map sentence_of has_fold c.args.script.now.statements ∙ (sym c.loop-place.invariant ∙ any_here (λ s. has_fold (sentence_of s)) c.args.script.now.statements c.loop-place.place c.get.result.now c.get.ensures here))

pub loop-place-preserved : goal.loop-place-preserved
loop-place-preserved c =
    let here : has_fold (sentence_of c.get.result.now) ≡ false = first_of (cc, search rules) in
    sym (any_later (λ s. has_fold (sentence_of s)) c.args.script.now.statements c.loop-place.place c.get.result.now c.get.ensures here) ∙ c.loop-place.invariant

pub returns : goal.returns
returns c =
    let past : length c.args.script.now.statements ≤ c.loop-place.place = first_of (search rules, grind (arith, nat_tests), grind (arith, common_steps)) in
    sym (any_map sentence_of has_fold c.args.script.now.statements ∙ (sym c.loop-place.invariant ∙ any_end (λ s. has_fold (sentence_of s)) c.args.script.now.statements c.loop-place.place past))
