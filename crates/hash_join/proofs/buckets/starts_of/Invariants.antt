use Rattle.std.proofs.Common.{◌<◌, ◌≤◌, length}
use Rattle.std.specs.List.{AllWithin}
use Rattle.hash_join.specs.Hash.{bucket_of}
use Rattle.hash_join.proofs.Starts.{AreBegun}
use Rattle.hash_join.proofs.buckets.starts_of.Given as goal

abbrev pub invariant-loop-number : goal.invariant-loop-number
invariant-loop-number l = record {
  here : l.place ≤ length l.hashes;
  passed : AllWithin (λ hash. bucket_of l.count hash < l.number) l.hashes 0 l.place;
  begun : AreBegun l.count l.hashes l.starts.items l.number;
}
