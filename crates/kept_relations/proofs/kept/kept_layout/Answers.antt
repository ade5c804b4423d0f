use Rattle.std.proofs.Common.{◌∙◌}
use Rattle.kept_relations.proofs.Fronts.{one_more}
use Rattle.kept_relations.proofs.kept.kept_layout.Goals as goal

pub loop-place-preserved : goal.loop-place-preserved
loop-place-preserved c =
    let kept = c.args.kept.now in
    rw c.in_ok-push.ensures.items (one_more c.loop-place.columns.items kept.columns kept.bounds c.loop-place.place c.get.result.now c.get-in-loop-place.result.now c.get.ensures c.get-in-loop-place.ensures)
    ∙ c.loop-place.invariant
