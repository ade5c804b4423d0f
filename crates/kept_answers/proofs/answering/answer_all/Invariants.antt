use Rattle.std.proofs.Common.{◌≡◌, ◌++◌, drop, map}
use Rattle.rel_meaning.specs.Expression.{question_of}
use Rattle.kept_answers.specs.KeptAnswers.{answers_from, answers_of, FitColumns, FitQueries}
use Rattle.kept_answers.proofs.answering.answer_all.Given as goal

-- the answers so far and those of the statements that are left, over the tables so far
abbrev pub invariant-loop-statement : goal.invariant-loop-statement
invariant-loop-statement l =
    (l.answers.items ++ answers_from l.relations.tables l.kept l.statement (map question_of (drop l.statement l.queries)) ≡ answers_of l.initial.relations.tables l.kept (map question_of l.queries))
    × FitQueries l.relations.columns.items l.kept l.statement (map question_of (drop l.statement l.queries))
    × FitColumns l.relations.columns.items l.relations.tables
