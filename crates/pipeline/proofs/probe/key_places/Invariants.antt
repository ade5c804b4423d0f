use Rattle.std.proofs.Common.{◌≡◌, ◌++◌, drop, map}
use Rattle.hash_join.specs.Table.{places_of}
use Rattle.pipeline.proofs.probe.key_places.Given as goal

abbrev pub invariant-loop-key : goal.invariant-loop-key
invariant-loop-key l = l.places.items ++ places_of l.layout (map (λ key. key.probe) (drop l.key-index l.keys)) ≡ places_of l.layout (map (λ key. key.probe) l.keys)
