use Rattle.std.proofs.Common.{◌≡◌, map, take}
use Rattle.pipeline.specs.SamplePieces.{sample_part}
use Rattle.pipeline.proofs.samples.layout.Given as goal

abbrev pub invariant-loop-var : goal.invariant-loop-var
invariant-loop-var l = l.parts.items ≡ map sample_part (take l.var-index l.vars)
