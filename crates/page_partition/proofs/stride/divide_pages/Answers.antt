use Rattle.std.proofs.Common.{arith}
use Rattle.page_partition.specs.StrideKept.{page_cut_within, named-stride_from, idle-stride_from}
use Rattle.page_partition.proofs.stride.divide_pages.Goals as goal

pub stride-requires-clause-within : goal.stride-requires-clause-within
stride-requires-clause-within c = omega (arith, c.cut-cut.ensures, page_cut_within c.args.marks.now)

pub recount-requires-clause-named : goal.recount-requires-clause-named
recount-requires-clause-named c = rw c.stride.ensures (named-stride_from 0 c.cut-cut.result c.args.degree c.args.marks.now c.requires.low c.requires.high c.requires.named)

pub recount-requires-clause-idle : goal.recount-requires-clause-idle
recount-requires-clause-idle c = λ r lt. rw c.stride.ensures (idle-stride_from r 0 c.cut-cut.result c.args.degree c.args.marks.now (c.requires.idle r lt))
