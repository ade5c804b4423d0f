use Rattle.std.proofs.Common.{◌≡◌, take}
use Rattle.std.specs.List.{flat_map, fold}
use Rattle.std.specs.Hash.FoldHasher as folding
use Rattle.hash_join.specs.Hash.{writes_of}
use Rattle.hash_join.specs.Table.{key_of}
use Rattle.hash_join.proofs.hash.hash_in.Given as goal

abbrev pub invariant-loop-column : goal.invariant-loop-column
invariant-loop-column l = l.state ≡ fold folding.write folding.initial (flat_map writes_of (key_of (take l.column-index l.columns) l.row))
