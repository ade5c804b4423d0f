use Rattle.std.proofs.Common.{arith, sym, ◌∙◌}
use Rattle.page_partition.specs.declared.table.Mark.TheVariants.{Left}
use Rattle.page_partition.specs.StrideKept.{page_cut_false, cut_later}
use Rattle.page_partition.proofs.stride.cut.Goals as goal
use Rattle.page_partition.proofs.stride.cut.Goals.{then-is_deposited, else-is_deposited}

pub loop-p-preserved : goal.loop-p-preserved
loop-p-preserved c =
    let ms = c.args.marks.now in
    let p = c.loop-p.p in
    elim c.if-is_deposited.branch [
      | then-is_deposited w ↦ w.cut-is ∙ cut_later ms p _ _ c.loop-p.invariant w.later_cut-cut.ensures (omega arith) (sym c.is_deposited.ensures ∙ w.if-is_deposited.true)
      | else-is_deposited w ↦ w.cut-is ∙ c.loop-p.invariant ∙ sym (page_cut_false ms p (Left 0) (omega arith) (sym c.is_deposited.ensures ∙ w.if-is_deposited.false))
    ]
