use Rattle.std.proofs.Common.{◌≡◌, ◌+◌, ◌≤◌, ◌++◌, true, drop, length, map, Some, vec_capacity, vec_len}
use Rattle.std.specs.List.{All}
use Rattle.std.specs.Vec.Iter.{into_iter_items, into_iter_len}
use Rattle.master.specs.Ends.{marked_values}
use Rattle.master.specs.Kind.{is_ended}
use Rattle.master.proofs.answers.values_where.Given as goal

abbrev pub invariant-loop-slot : goal.invariant-loop-slot
invariant-loop-slot l = record {
  values : map Some (map (λ x. x.value) l.values.items) ++ marked_values (drop l.number l.marks) (into_iter_items l.slot-iterator) ≡ marked_values l.marks (into_iter_items l.initial.slot-iterator);
  ended : All (λ s. is_ended s ≡ true) (into_iter_items l.slot-iterator);
  size : l.number + length (into_iter_items l.slot-iterator) ≤ length l.marks;
  len : into_iter_len l.slot-iterator ≡ length (into_iter_items l.slot-iterator);
  few : vec_len l.values ≤ l.number;
  room : l.number + length (into_iter_items l.slot-iterator) ≤ vec_capacity l.values;
}
