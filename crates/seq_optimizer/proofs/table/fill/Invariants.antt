use Rattle.std.proofs.Common.{◌≡◌, length, ◌^◌, ◌+◌, ◌<◌}
use Rattle.seq_optimizer.specs.Tables.{SettledBelow, planned}
use Rattle.seq_optimizer.proofs.table.fill.Given as goal

abbrev pub invariant-loop-before : goal.invariant-loop-before
invariant-loop-before l = record {
  len : length l.table.items ≡ 2 ^ l.var + l.before;
  var : l.var < length l.planner.stats.now;
  settled : SettledBelow (planned l.planner) l.table.items (2 ^ l.var + l.before);
}

abbrev pub invariant-loop-var : goal.invariant-loop-var
invariant-loop-var l = record {
  len : length l.table.items ≡ 2 ^ l.var;
  settled : SettledBelow (planned l.planner) l.table.items (2 ^ l.var);
}
