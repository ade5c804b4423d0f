use Rattle.std.proofs.Common.{◌≡◌, ◌+◌, arith, sym, ◌∙◌, refl}
use Rattle.std.proofs.lemmas.List.{length-set}
use Rattle.page_partition.specs.StrideKept.{stride_below, stride_step}
use Rattle.page_partition.proofs.stride.stride.Goals as goal

pub loop-p-init : goal.loop-p-init
loop-p-init c = (refl, let z : 0 + c.args.cut ≡ c.args.cut = omega arith in sym (rw z at (stride_below c.args.cut 0 c.args.cut c.args.degree c.args.marks.now (omega arith))))

pub loop-p-preserved : goal.loop-p-preserved
loop-p-preserved c = (
  length-set c.loop-p.marks c.loop-p.p _ ∙ c.loop-p.invariant.0,
  stride_step c.loop-p.marks c.loop-p.p c.args.cut c.args.degree (omega (arith, c.loop-p.invariant.0)) (omega arith) ∙ c.loop-p.invariant.1,
)
