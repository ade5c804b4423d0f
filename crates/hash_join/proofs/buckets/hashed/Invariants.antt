use Rattle.std.proofs.Common.{◌≡◌, map, take}
use Rattle.hash_join.specs.Making.{entry_of}
use Rattle.hash_join.proofs.buckets.hashed.Given as goal

abbrev pub invariant-loop-at : goal.invariant-loop-at
invariant-loop-at l = l.entries.items ≡ map (entry_of (record { lists = map (λ x. x.value) l.parts; columns = l.columns })) (take l.at-index l.places)
