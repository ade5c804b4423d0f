use Rattle.std.proofs.Common.{◌≡◌, ◌≤◌, ◌-◌, ◌++◌, drop, length, map}
use Rattle.std.specs.List.{AllByRecursion}
use Rattle.lists.specs.Arranged.{Ascends}
use Rattle.aggregate_op.specs.Partials.{partial}
use Rattle.aggregate_op.specs.Runs.{group_order, seen}
use Rattle.aggregate_op.specs.Stored.{IsStoredRow}
use Rattle.aggregate_op.proofs.partials.known_rows.Given as goal

abbrev pub invariant-loop-done : goal.invariant-loop-done
invariant-loop-done l = record {
  upto : l.done ≤ length l.rows;
  ascend : Ascends (group_order l.fold) (map seen (drop l.done l.rows));
  known : l.found.items ++ partial l.fold (map seen (drop l.done l.rows)) ≡ partial l.fold (map seen l.rows);
  stored : AllByRecursion (IsStoredRow l.fold) (map seen (drop l.done l.rows)) → AllByRecursion (IsStoredRow l.fold) (map seen l.rows);
}

abbrev pub decreases-loop-done : goal.decreases-loop-done
decreases-loop-done l = length l.rows - l.done
