use Rattle.std.proofs.Common.{◌≡◌, ◌∙◌, ℕ, List, Option, ap, length, map, subst, sym}
use Rattle.std.specs.Prelude.{IfOk}
use Rattle.std.proofs.lemmas.Result.{IfErr-weaker, IfOk-weaker, MatchResult-at_err, MatchResult-weaker}
use Rattle.buffer_pool.specs.Images.{image_on}
use Rattle.buffer_pool.specs.Lone.{count_at, drives_of, map_of}
use Rattle.buffer_pool.specs.declared.mounted.Mounted.{Mounted}
use Rattle.heap_page.specs.declared.errors.FetchErr.TheVariants.{BadPage}
use Rattle.heap_page.specs.Stores.{fetch_fault}
use Rattle.key_index.specs.Searches.{NotBad}
use Rattle.plan_tree.specs.Views.{planned_of}
use Rattle.rel_meaning.specs.Expression.{question_of}
use Rattle.query_planner.specs.Causes.{PlanCause, ReadCause}
use Rattle.query_planner.specs.Plans.{AreBestPlans, ArePlannedOver}
use Rattle.query_planner.specs.Stored.{AreOf}
use Rattle.query_planner.specs.Told.{AreTold}
use Rattle.query_planner.proofs.Causing.{of_drives, quiet_of}
use Rattle.query_planner.proofs.MayBeCut.{may_be_cut}
use Rattle.query_planner.proofs.Telling.{tells}
use Rattle.query_planner.proofs.planning.plan_queries.Goals as goal

pub returns-clause-plans : goal.returns-clause-plans
returns-clause-plans g c = λ tables are hold tell.
    let laid = c.args.laid.now in
    let here = subst (λ (n : ℕ). AreOf c.args.relations.now c.args.rows.now laid n tables) c.args.drives.ok.0 are in
    let told = tells g.D.Drive c.args.relations.now c.args.rows.now laid tables c.args.drives.items here hold tell in
    let pool = subst (λ (image : Option (ℕ → ℕ → List ℕ)). AreTold c.args.relations.now c.args.rows.now laid tables image) (sym c.in-Ok.ensures.image) told in
    MatchResult-weaker c.plans_of-plans.result (c.plans_of-plans.ensures.told tables pool) (λ plans k. k) (λ e k. tt)

pub returns-clause-accepted : goal.returns-clause-accepted
returns-clause-accepted g c = λ tables bad are hold tell is.
    let laid = c.args.laid.now in
    let here = subst (λ (n : ℕ). AreOf c.args.relations.now c.args.rows.now laid n tables) c.args.drives.ok.0 are in
    let told = tells g.D.Drive c.args.relations.now c.args.rows.now laid tables c.args.drives.items here hold tell in
    let pool = subst (λ (image : Option (ℕ → ℕ → List ℕ)). AreTold c.args.relations.now c.args.rows.now laid tables image) (sym c.in-Ok.ensures.image) told in
    MatchResult-at_err (λ plans. AreBestPlans c.args.relations.now tables c.args.kept.now
    c.args.method (map question_of c.args.queries.now) plans.stats (map planned_of plans.plans))
    NotBad (BadPage bad) is (c.plans_of-plans.ensures.told tables pool)

pub returns-clause-err : goal.returns-clause-err
returns-clause-err g c =
    let laid = c.args.laid.now in
    let olds = c.args.drives.items in
    let news = c.into_drives.result.items in
    let first = c.in-Ok.pool.shards.items in
    let last = c.plans_of-plans.new.pages.shards.items in
    let drives = (map_of c.in-Ok.pool.mounted).drives in
    let count : drives ≡ length olds = c.in-Ok.ensures.files.1 ∙ (c.requires.stands.are.stand.of.drives_are ∙ c.args.drives.ok.0) in
    let same : length news ≡ length olds = c.into_drives.ensures.read.len ∙ (ap (λ (m : Mounted _). length (drives_of m)) c.plans_of-plans.ensures.whole ∙ ap length c.in-Ok.ensures.drives) in
    let image = image_on g.D.Drive (map_of c.in-Ok.pool.mounted) (drives_of c.in-Ok.pool.mounted) in
    IfErr-weaker c.plans_of-plans.result (ReadCause laid image drives (count_at first) (count_at last)) (PlanCause g.D.Drive laid olds news)
    (λ e h. of_drives g.D.Drive laid image drives olds news first last e c.in-Ok.ensures.new.same c.into_drives.ensures.drives c.in-Ok.ensures.image count same h)
    c.plans_of-plans.ensures.err

pub returns-clause-trees : goal.returns-clause-trees
returns-clause-trees g c =
    subst (λ (image : Option (ℕ → ℕ → List ℕ)). IfOk c.plans_of-plans.result
    (λ plans. ArePlannedOver c.args.relations.now c.args.laid.now image c.args.kept.now
    c.args.method (map question_of c.args.queries.now) plans.stats
    (map planned_of plans.plans))) c.in-Ok.ensures.image c.plans_of-plans.ensures.trees

pub returns-clause-quiet : goal.returns-clause-quiet
returns-clause-quiet g c =
    quiet_of g.D.Drive (fetch_fault c.plans_of-plans.result) c.args.drives.items c.into_drives.result.items c.in-Ok.pool.shards.items c.plans_of-plans.new.pages.shards.items c.in-Ok.ensures.new.same c.into_drives.ensures.drives c.plans_of-plans.ensures.quiet

pub returns-clause-cut : goal.returns-clause-cut
returns-clause-cut g c = λ may.
    let laid = c.args.laid.now in
    IfOk-weaker c.plans_of-plans.result _ _
    (λ made h. may_be_cut c.args.relations.now c.args.rows.now laid c.args.drives.len
    c.args.kept.now _ c.args.method (map question_of c.args.queries.now) made.stats
    (map planned_of made.plans) c.requires.stands c.requires.queries may h)
    c.plans_of-plans.ensures.trees
