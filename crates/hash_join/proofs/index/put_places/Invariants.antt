use Rattle.std.proofs.Common.{◌≡◌, ◌++◌, map}
use Rattle.std.specs.List.{range_with_len}
use Rattle.hash_join.specs.Table.{place_at}
use Rattle.hash_join.proofs.index.put_places.Given as goal

abbrev pub invariant-loop-place : goal.invariant-loop-place
invariant-loop-place l = l.index.items ≡ l.initial.index.items ++ map (place_at l.position) (range_with_len 0 l.place)
