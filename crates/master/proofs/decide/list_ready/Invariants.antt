use Rattle.std.proofs.Common.{◌≡◌, ◌≤◌, filter, map, take, vec_capacity, vec_len}
use Rattle.master.specs.Gives.{is_ready}
use Rattle.master.specs.Kind.{Slotted}
use Rattle.master.proofs.decide.list_ready.Given as goal

abbrev pub invariant-loop-slot : goal.invariant-loop-slot
invariant-loop-slot l = record { items : l.loads.items ≡ map (λ (s : Slotted). s.load) (filter (is_ready l.slots) (take l.slot-index l.slots)); capacity : vec_capacity l.loads ≡ vec_capacity l.initial.loads; few : vec_len l.loads ≤ l.slot-index }
