use Rattle.std.proofs.Common.{◌≡◌, ◌++◌, drop}
use Rattle.pipeline.specs.Taking.{taken_part}
use Rattle.pipeline.proofs.combining.put_part.Given as goal

abbrev pub invariant-loop-column : goal.invariant-loop-column
invariant-loop-column l =
    l.taken.items ++ taken_part l.first l.second l.part.var l.column (drop l.column l.part.columns) ≡ l.fn.taken.items ++ taken_part l.first l.second l.part.var 0 l.part.columns
