use Rattle.std.proofs.Common.{arith}
use Rattle.pipeline.proofs.Taken.{taken_more}
use Rattle.pipeline.proofs.combining.put_part.Goals as goal

pub loop-column-preserved : goal.loop-column-preserved
loop-column-preserved c =
    taken_more c.args.first.now c.args.second.now c.args.part.now.var c.loop-column.column c.args.part.now.columns c.loop-column.taken.items c.push.new.self.items _ c.in_ok-taken_from.field-0
    (omega arith) c.in_ok-taken_from.ensures c.in_ok-push.ensures.items c.loop-column.invariant
