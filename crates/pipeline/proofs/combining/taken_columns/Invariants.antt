use Rattle.std.proofs.Common.{◌≡◌, ◌++◌, drop}
use Rattle.pipeline.specs.Taking.{taken_columns}
use Rattle.pipeline.proofs.combining.taken_columns.Given as goal

abbrev pub invariant-loop-part : goal.invariant-loop-part
invariant-loop-part l = l.taken.items ++ taken_columns (drop l.part-index l.layout) l.first l.second ≡ taken_columns l.layout l.first l.second
