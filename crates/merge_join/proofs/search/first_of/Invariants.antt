use Rattle.std.proofs.Common.{◌-◌, ◌≡◌, ◌≤◌, length, false}
use Rattle.std.specs.List.{AllWithin}
use Rattle.std.specs.Ordering.{is_lt}
use Rattle.hash_join.specs.Table.{rows_of}
use Rattle.merge_join.specs.Sides.{AreBelow, key_order}
use Rattle.merge_join.proofs.search.first_of.Given as goal

abbrev pub invariant-loop-low : goal.invariant-loop-low
invariant-loop-low l = record {
  ordered : l.low ≤ l.high;
  within : l.high ≤ length (rows_of l.right.lists);
  below : AreBelow l.first l.second l.keys l.a (rows_of l.right.lists) l.low;
  rest : AllWithin (λ b. is_lt (key_order l.first l.second l.keys l.a b) ≡ false)
      (rows_of l.right.lists) l.high (length (rows_of l.right.lists));
}

abbrev pub decreases-loop-low : goal.decreases-loop-low
decreases-loop-low l = l.high - l.low
