use Rattle.std.proofs.Common.{◌≡◌, ◌++◌, drop, map}
use Rattle.xprs_top.specs.Answers.{shown, shown_from}
use Rattle.xprs_top.specs.Shown.{answer_by}
use Rattle.xprs_top.proofs.answering.shown_answers.Given as goal

-- those so far and those of the statements that are left
abbrev pub invariant-loop-statement : goal.invariant-loop-statement
invariant-loop-statement l =
    map answer_by l.found.items ++ shown_from l.kept l.headers l.statement (drop l.statement l.answers) ≡ shown l.kept l.headers l.answers
