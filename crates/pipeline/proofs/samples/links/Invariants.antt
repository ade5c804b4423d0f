use Rattle.std.proofs.Common.{◌≡◌, map, take}
use Rattle.plan_tree.specs.Pieces.{probing_of}
use Rattle.pipeline.specs.SamplePieces.{sample_link}
use Rattle.pipeline.proofs.samples.links.Given as goal

abbrev pub invariant-loop-input : goal.invariant-loop-input
invariant-loop-input l = map probing_of l.probes.items ≡ map (sample_link l.vars) (take l.input-index l.inputs)
