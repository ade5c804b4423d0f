use Rattle.std.proofs.Common.{◌≡◌, List, sym, subst, ◌∙◌}
use Rattle.std.specs.List.{AllByRecursion}
use Rattle.rows.specs.Layouts.{IsRowIn}
use Rattle.plan_tree.specs.Fragments.{after_probe}
use Rattle.plan_tree.specs.Pieces.{probing_of}
use Rattle.hash_join.specs.Table.{rows_of}
use Rattle.pipeline.proofs.Joined.{probed_are, probed_fit}
use Rattle.pipeline.proofs.Oks.{if_ok_more}
use Rattle.pipeline.proofs.probe.probe_rows.Goals as goal

pub returns-clause-fit : goal.returns-clause-fit
returns-clause-fit c =
    if_ok_more c.join_rows.result _ (AllByRecursion (IsRowIn c.args.probe.now.layout))
    (λ found is. subst (AllByRecursion (IsRowIn c.args.probe.now.layout)) (sym is) (probed_fit c.args.before.now (probing_of c.args.probe.now) c.args.built.now c.args.rows.now c.requires.can c.requires.rows)) c.join_rows.ensures

pub returns-clause-output : goal.returns-clause-output
returns-clause-output c = λ values from.
    if_ok_more c.join_rows.result _ (λ found. found ≡ after_probe values c.args.before.now (probing_of c.args.probe.now) c.args.rows.now)
    (λ found is. is ∙ probed_are c.args.before.now (probing_of c.args.probe.now) values (rows_of c.args.built.now.lists) c.args.rows.now from) c.join_rows.ensures
