use Rattle.std.proofs.Common.{map, subst}
use Rattle.rel_meaning.specs.Expression.{output_of}
use Rattle.aggregate_op.specs.Stored.{IsPartialOf}
use Rattle.plan_tree.specs.Fragments.{targets_of}
use Rattle.pipeline.proofs.Folded.{fold_rows}
use Rattle.pipeline.proofs.Oks.{if_ok_more}
use Rattle.pipeline.proofs.finishing.folded_rows.Goals as goal

pub returns : goal.returns
returns c =
    let layout = c.args.layout.now in
    let targets = map output_of c.args.targets.now in
    let fold = c.args.fold.now in
    if_ok_more c.partial.result _ (IsPartialOf fold (targets_of targets layout c.args.rows.now))
    (λ found told. subst (λ rows. IsPartialOf fold rows found) c.in_ok-rows.ensures.rows (told (fold_rows layout targets fold c.requires.folded c.in_ok-rows.rows c.in_ok-rows.ensures.fit))) c.partial.ensures
