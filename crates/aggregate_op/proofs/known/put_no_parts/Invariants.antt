use Rattle.std.proofs.Common.{◌≡◌, ◌++◌, drop}
use Rattle.aggregate_op.specs.Joined.{no_parts}
use Rattle.aggregate_op.proofs.known.put_no_parts.Given as goal

abbrev pub invariant-loop-op : goal.invariant-loop-op
invariant-loop-op l = l.values.items ++ no_parts (drop l.op-index l.ops) ≡ l.initial.values.items ++ no_parts l.ops
