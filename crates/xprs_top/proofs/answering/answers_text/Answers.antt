use Rattle.std.proofs.Common.{◌≡◌, ◌∙◌, ap, map, flat_map, ◌++◌, List, ℕ}
use Rattle.xprs_top.specs.Answers.{answer_of, answers_bytes, next_answer}
use Rattle.xprs_top.specs.Shown.{answer_by}
use Rattle.xprs_top.proofs.Joined.{if_ok_map, joined}
use Rattle.xprs_top.proofs.answering.answers_text.Goals as goal

pub returns : goal.returns
returns c =
    let begins = c.in_ok-text.ensures ∙ ap (λ (xs : List ℕ). xs ++ answer_of (answer_by c.in-Some.first.now)) c.new-2.ensures.items in
    if_ok_map c.with_answers.result (λ v. v.items ≡ c.in_ok-text.text.items ++ flat_map (λ a. next_answer (answer_by a)) c.in-Some.rest.now) (λ v. v.items ≡ answers_bytes (map answer_by c.args.answers.now))
    (λ v e. joined c.args.answers.now c.in-Some.rest.now c.in-Some.first.now c.in_ok-text.text.items v.items c.in-Some.ensures.cases.0 begins e) c.with_answers.ensures
