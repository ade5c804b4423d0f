use Rattle.std.proofs.Common.{◌≡◌, ◌+◌, map, drop}
use Rattle.aggregate_op.specs.Partials.{group_of}
use Rattle.aggregate_op.specs.Runs.{leading, seen}
use Rattle.aggregate_op.proofs.groups.leading.Given as goal

abbrev pub invariant-loop-row : goal.invariant-loop-row
invariant-loop-row l = record {
  counted : l.count ≡ l.row-index;
  is : leading l.fold (group_of l.fold l.first) (map seen l.rows) ≡ l.count + leading l.fold (group_of l.fold l.first) (map seen (drop l.row-index l.rows));
}
