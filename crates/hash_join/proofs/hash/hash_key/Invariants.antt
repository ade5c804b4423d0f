use Rattle.std.proofs.Common.{◌≡◌, take}
use Rattle.std.specs.List.{flat_map, fold}
use Rattle.std.specs.Hash.FoldHasher as folding
use Rattle.hash_join.specs.Hash.{writes_of}
use Rattle.hash_join.proofs.hash.hash_key.Given as goal

abbrev pub invariant-loop-value : goal.invariant-loop-value
invariant-loop-value l = l.state ≡ fold folding.write folding.initial (flat_map writes_of (take l.value-index l.key))
