use Rattle.std.proofs.Common.{◌≡◌, ◌++◌, take}
use Rattle.std.specs.List.{flat_map}
use Rattle.xprs_top.specs.Answers.{next_answer}
use Rattle.xprs_top.specs.Shown.{answer_by}
use Rattle.xprs_top.proofs.answering.with_answers.Given as goal

abbrev pub invariant-loop-answer : goal.invariant-loop-answer
invariant-loop-answer l = l.text.items ≡ l.fn.text.items ++ flat_map (λ a. next_answer (answer_by a)) (take l.answer-index l.answers)
