use Rattle.std.specs.List.{AllWithin}
use Rattle.std.proofs.Common.{◌<◌}
use Rattle.hash_join.specs.Hash.{bucket_of}
use Rattle.hash_join.proofs.buckets.count_before.Given as goal

abbrev pub invariant-loop-place : goal.invariant-loop-place
invariant-loop-place l = AllWithin (λ hash. bucket_of l.count hash < l.number) l.hashes 0 l.place
