use Rattle.std.proofs.Common.{◌≡◌, [], map}
use Rattle.std.specs.List.{flat_map, range_with_len}
use Rattle.std.specs.Prelude.{slice_index_or}
use Rattle.hash_join.specs.Table.{places_in}
use Rattle.hash_join.proofs.index.all_places.Given as goal

abbrev pub invariant-loop-position : goal.invariant-loop-position
invariant-loop-position l = l.index.items ≡ flat_map (λ position. places_in position (slice_index_or (map (λ x. x.value) l.parts) position [])) (range_with_len 0 l.position)
