use Rattle.std.proofs.Common.{arith}
use Rattle.range_partition.specs.ShareLaws.{named-share_from, idle-share_from}
use Rattle.range_partition.proofs.share.divide_entries.Goals as goal

pub recount-requires-clause-named : goal.recount-requires-clause-named
recount-requires-clause-named c = rw c.share.ensures (named-share_from 0 c.count_undeposited-left.result c.args.degree c.args.marks.now c.requires.low c.requires.high (omega (arith, c.count_undeposited-left.ensures)) c.requires.named)

pub recount-requires-clause-idle : goal.recount-requires-clause-idle
recount-requires-clause-idle c = λ r lt. rw c.share.ensures (idle-share_from r 0 0 c.count_undeposited-left.result c.args.degree c.args.marks.now (c.requires.idle r lt))
