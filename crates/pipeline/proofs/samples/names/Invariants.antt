use Rattle.std.proofs.Common.{◌≡◌, map, take}
use Rattle.rel_meaning.specs.Expression.{output_of}
use Rattle.pipeline.specs.SamplePieces.{sample_output}
use Rattle.pipeline.proofs.samples.names.Given as goal

abbrev pub invariant-loop-var : goal.invariant-loop-var
invariant-loop-var l = map output_of l.targets.items ≡ map sample_output (take l.var-index l.vars)
