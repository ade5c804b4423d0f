use Rattle.seq_optimizer.specs.Tables.{IsBest, planned, split_price}
use Rattle.seq_optimizer.proofs.table.best_split.Given as goal

abbrev pub invariant-loop-build : goal.invariant-loop-build
invariant-loop-build l = IsBest (split_price (planned l.planner) l.table l.set) l.set l.build l.best
