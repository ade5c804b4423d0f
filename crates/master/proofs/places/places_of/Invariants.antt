use Rattle.std.proofs.Common.{◌≡◌, ◌≤◌, ◌+◌, ◌++◌, length, take, vec_capacity, vec_len}
use Rattle.master.proofs.places.places_of.Given as goal

abbrev pub invariant-loop-position : goal.invariant-loop-position
invariant-loop-position l = record { items : l.places.items ≡ take l.position-index l.position-items; room : length l.position-items ≤ vec_capacity l.places }
