use Rattle.std.proofs.Common.{◌≡◌, take}
use Rattle.hash_join.specs.Table.{places_of}
use Rattle.hash_join.proofs.key.key_places.Given as goal

abbrev pub invariant-loop-key : goal.invariant-loop-key
invariant-loop-key l = l.columns.items ≡ places_of l.layout (take l.key-index l.keys)
