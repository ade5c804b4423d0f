use Rattle.std.proofs.Common.{map, subst, sym}
use Rattle.std.specs.List.{AllByRecursion}
use Rattle.rel_meaning.specs.Expression.{output_of}
use Rattle.plan_tree.specs.WellFormed.{FitsTypes, target_types}
use Rattle.pipeline.proofs.Oks.{if_ok_more}
use Rattle.pipeline.proofs.Projected.{all_targets_fit}
use Rattle.pipeline.proofs.projecting.project_rows.Goals as goal

pub returns-clause-fit : goal.returns-clause-fit
returns-clause-fit c =
    if_ok_more c.projected_rows.result _ (AllByRecursion (FitsTypes (target_types c.args.layout.now (map output_of c.args.targets.now))))
    (λ found is. subst (AllByRecursion (FitsTypes (target_types c.args.layout.now (map output_of c.args.targets.now)))) (sym is) (all_targets_fit c.args.layout.now (map output_of c.args.targets.now) c.requires.typed c.args.rows.now c.requires.rows)) c.projected_rows.ensures
