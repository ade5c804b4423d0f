use Rattle.std.proofs.Common.{◌≡◌, ◌∙◌, ap, sym, subst, map, []}
use Rattle.std.specs.List.{AllByRecursion}
use Rattle.plan_tree.specs.Pieces.{pieces_of}
use Rattle.plan_tree.specs.Views.{planned_of}
use Rattle.plan_tree.specs.WellFormed.{AreWellFormed}
use Rattle.fragments.specs.Homes.{files_known}
use Rattle.fragments.specs.Premises.{HasNamedFiles}
use Rattle.fragments.specs.Scripts.{cut_plans}
use Rattle.fragments.proofs.FormedScript.{all_formed}
use Rattle.fragments.proofs.NamedFiles.{script_names}
use Rattle.fragments.proofs.ScriptValues.{all_mean}
use Rattle.fragments.specs.Laws.{Mean}
use Rattle.fragments.proofs.cutting.cut.Goals as goal

pub returns-clause-formed : goal.returns-clause-formed
returns-clause-formed c =
    let known = files_known c.args.catalog.now c.args.files.now c.args.indexes.now c.args.kept.now in
    subst AreWellFormed (sym (ap pieces_of c.from_vec.ensures ∙ c.in_ok-cut_all.ensures ∙ (λ i. cut_plans (record { relations = c.args.catalog.now; files = c.deref.ensures.value i; indexes = c.args.indexes.now; kept = c.args.kept.now }) (c.items-2.ensures i) (map planned_of (c.items.ensures i))))) (all_formed known c.args.stats.now (map planned_of c.args.plans.now) c.requires)

pub returns-clause-files : goal.returns-clause-files
returns-clause-files c =
    let known = files_known c.args.catalog.now c.args.files.now c.args.indexes.now c.args.kept.now in
    subst (AllByRecursion (HasNamedFiles c.args.files.now.files.items)) (sym (ap pieces_of c.from_vec.ensures ∙ c.in_ok-cut_all.ensures ∙ (λ i. cut_plans (record { relations = c.args.catalog.now; files = c.deref.ensures.value i; indexes = c.args.indexes.now; kept = c.args.kept.now }) (c.items-2.ensures i) (map planned_of (c.items.ensures i))))) (script_names known c.requires.files c.args.stats.now (map planned_of c.args.plans.now) [] 0)

pub returns-clause-means : goal.returns-clause-means
returns-clause-means c =
    let known = files_known c.args.catalog.now c.args.files.now c.args.indexes.now c.args.kept.now in
    subst (Mean known c.args.stats.now (map planned_of c.args.plans.now)) (sym (ap pieces_of c.from_vec.ensures ∙ c.in_ok-cut_all.ensures ∙ (λ i. cut_plans (record { relations = c.args.catalog.now; files = c.deref.ensures.value i; indexes = c.args.indexes.now; kept = c.args.kept.now }) (c.items-2.ensures i) (map planned_of (c.items.ensures i))))) (all_mean known c.args.stats.now (map planned_of c.args.plans.now) c.requires)
