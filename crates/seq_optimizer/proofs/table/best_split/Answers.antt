use Rattle.std.proofs.Common.{arith, sym, subst, ◌<◌, ◌+◌, Option}
use Rattle.seq_optimizer.specs.declared.table.Entry.{Entry}
use Rattle.seq_optimizer.specs.Tables.{IsBest, planned, split_price}
use Rattle.seq_optimizer.proofs.Splits.{skipped, taken}
use Rattle.seq_optimizer.proofs.table.best_split.Goals as goal

pub loop-build-preserved-then-build-set-ne0 : goal.loop-build-preserved-then-build-set-ne0
loop-build-preserved-then-build-set-ne0 c =
    skipped (split_price (planned c.args.planner.now) c.args.table.now c.args.set) c.args.set c.loop-build.build c.loop-build.best (λ apart. c.if-build-set-ne0.true apart) c.loop-build.invariant

pub loop-build-preserved : goal.loop-build-preserved
loop-build-preserved c =
    let price = split_price (planned c.args.planner.now) c.args.table.now c.args.set in
    let some : 0 < c.loop-build.build = omega arith in
    subst (λ (o : Option Entry). IsBest price c.args.set (c.loop-build.build + 1) o) (sym c.better_of-best.ensures)
    (taken price c.args.set c.loop-build.build c.loop-build.best some c.if-build-set-ne0.false c.split_cost-cost.result c.split_cost-cost.ensures c.loop-build.invariant)
