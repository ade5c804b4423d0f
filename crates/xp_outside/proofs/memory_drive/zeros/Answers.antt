use Rattle.std.proofs.Common.{◌≡◌, arith, replicate}
use Rattle.std.proofs.lemmas.List.{replicate_more}
use Rattle.xp_outside.proofs.memory_drive.zeros.Goals as goal

pub loop-made-preserved : goal.loop-made-preserved
loop-made-preserved c = rw (c.in_ok-push.ensures.items, c.loop-made.invariant) (replicate_more c.loop-made._made (replicate 8192 0))

pub returns : goal.returns
returns c = let all : c.loop-made._made ≡ c.args.count = omega arith in rw (← all) c.loop-made.invariant
