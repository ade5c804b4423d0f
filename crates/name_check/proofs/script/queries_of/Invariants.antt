use Rattle.std.proofs.Common.{◌≡◌, map}
use Rattle.rel_meaning.specs.Expression.{question_of}
use Rattle.name_check.specs.Steps.{question_by, view_of}
use Rattle.name_check.proofs.script.queries_of.Given as goal

abbrev pub invariant-loop-one : goal.invariant-loop-one
invariant-loop-one l = map question_of l.queries.items ≡ map question_by (map view_of l.yielded)
