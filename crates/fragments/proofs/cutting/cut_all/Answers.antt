use Rattle.std.proofs.Common.{rules, ◌<◌, ◌≡◌, ◌∙◌, ◌+◌, ◌++◌, ◌∷◌, [], ap, sym, subst, arith, map, length, Some, slice_get}
use Rattle.std.proofs.lemmas.List.{length-map}
use Rattle.std.proofs.lemmas.List.Elements.{recursion_from_All}
use Rattle.rel_meaning.specs.Expression.{question_of}
use Rattle.plan_tree.specs.Pieces.{piece_of, pieces_of}
use Rattle.plan_tree.specs.Views.{planned_of, shape_of}
use Rattle.fragments.specs.Cuts.{cut_query, last_of}
use Rattle.fragments.specs.Homes.{home_for}
use Rattle.fragments.specs.Opened.{known_of}
use Rattle.fragments.specs.Premises.{MayScan}
use Rattle.fragments.proofs.SoFar.{SoFar, facts_here, none_yet, one_more, plan_here, ready_here}
use Rattle.fragments.proofs.Standing.{get_is, get_map}
use Rattle.fragments.proofs.Steps.{few_fragments, kept_bounds, may_scan, var_width}
use Rattle.fragments.proofs.cutting.cut_all.Goals as goal

pub loop-number-init : goal.loop-number-init
loop-number-init c =
    let known = known_of c.args.known.now in
    let ps = map planned_of c.args.plans.now in
    subst (λ lasts. SoFar known c.args.stats.now ps lasts (pieces_of c.new-fragments.result.items) 0) (sym c.new-lasts.ensures.items)
    (subst (λ items. SoFar known c.args.stats.now ps [] (pieces_of items) 0) (sym c.new-fragments.ensures.items) (none_yet known c.args.stats.now ps c.requires))

pub cut_statement-requires-clause-statement : goal.cut_statement-requires-clause-statement
cut_statement-requires-clause-statement c =
    let known = known_of c.args.known.now in
    let table = c.args.stats.now in
    let ps = map planned_of c.args.plans.now in
    let lasts = c.loop-number.lasts.items in
    let pieces = pieces_of c.loop-number.fragments.items in
    let place = c.loop-number.number in
    let plan = c.index-plans-number.result in
    let so = c.loop-number.invariant in
    let less : place < length c.args.plans.now = search rules in
    let at = get_map planned_of c.args.plans.now place plan (get_is c.args.plans.now place plan less c.index-plans-number.is) in
    let ready = ready_here known table ps lasts pieces place (planned_of plan) at so in
    let long = length-map c.args.plans.now planned_of in
    let stats = get_is table place c.index-stats-number.result (omega (arith, less, long, c.requires.stats)) c.index-stats-number.is in
    let few = ready.few in
    let same = ap length c.deref.ensures.value in
    record {
      few = omega (arith, few, same);
      relations = c.requires.relations;
      narrow = λ v. var_width known (recursion_from_All _ _ c.requires.narrow) (recursion_from_All _ _ c.requires.bounds) c.deref.result.now (slice_get plan.query.vars v);
      plan = plan_here known table ps lasts pieces place (planned_of plan) at so c.index-stats-number.result stats;
      bounds = kept_bounds c.args.known.now.kept.now c.requires.bounds;
    }

pub cut_statement-requires-clause-scans : goal.cut_statement-requires-clause-scans
cut_statement-requires-clause-scans c =
    let known = known_of c.args.known.now in
    let table = c.args.stats.now in
    let ps = map planned_of c.args.plans.now in
    let lasts = c.loop-number.lasts.items in
    let pieces = pieces_of c.loop-number.fragments.items in
    let place = c.loop-number.number in
    let plan = c.index-plans-number.result in
    let so = c.loop-number.invariant in
    let less : place < length c.args.plans.now = search rules in
    let at = get_map planned_of c.args.plans.now place plan (get_is c.args.plans.now place plan less c.index-plans-number.is) in
    let ready = ready_here known table ps lasts pieces place (planned_of plan) at so in
    subst (λ ls. MayScan (λ v. home_for known ls (slice_get plan.query.vars v)) (length plan.query.vars) (shape_of plan.tree)) (sym c.deref.ensures.value)
    (may_scan known table lasts so.columns (planned_of plan) c.requires.files ready)

pub cut_statement-requires-clause-room : goal.cut_statement-requires-clause-room
cut_statement-requires-clause-room c =
    let known = known_of c.args.known.now in
    let table = c.args.stats.now in
    let ps = map planned_of c.args.plans.now in
    let lasts = c.loop-number.lasts.items in
    let items = c.loop-number.fragments.items in
    let place = c.loop-number.number in
    let plan = c.index-plans-number.result in
    let so = c.loop-number.invariant in
    let less : place < length c.args.plans.now = search rules in
    let at = get_map planned_of c.args.plans.now place plan (get_is c.args.plans.now place plan less c.index-plans-number.is) in
    let ready = ready_here known table ps lasts (pieces_of items) place (planned_of plan) at so in
    let few = few_fragments known table lasts so.columns (planned_of plan) c.requires.files ready in
    let less = ready.few in
    let long = length-map items piece_of in
    omega (arith, few, less, long, so.count, so.room)

pub loop-number-preserved : goal.loop-number-preserved
loop-number-preserved c =
    let known = known_of c.args.known.now in
    let table = c.args.stats.now in
    let ps = map planned_of c.args.plans.now in
    let lasts = c.loop-number.lasts.items in
    let pieces = pieces_of c.loop-number.fragments.items in
    let place = c.loop-number.number in
    let plan = c.index-plans-number.result in
    let p = planned_of plan in
    let so = c.loop-number.invariant in
    let less : place < length c.args.plans.now = search rules in
    let at = get_map planned_of c.args.plans.now place plan (get_is c.args.plans.now place plan less c.index-plans-number.is) in
    let ready = ready_here known table ps lasts pieces place p at so in
    let long = length-map c.args.plans.now planned_of in
    let stats = get_is table place c.index-stats-number.result (omega (arith, less, long, c.requires.stats)) c.index-stats-number.is in
    let facts = facts_here known table ps lasts pieces place p at so c.deref.result.now c.index-stats-number.result c.deref.ensures.value stats in
    subst (λ ls. SoFar known table ps ls (pieces_of c.cut_statement.new.fragments.items) (place + 1)) (sym c.in_ok-push.ensures.items)
    (one_more known table ps lasts pieces place p at so c.in_ok-last.last (pieces_of c.cut_statement.new.fragments.items)
    (c.in_ok-last.ensures.last ∙ ap (λ f. last_of f (length pieces) p.tree) facts)
    (c.in_ok-last.ensures.pieces ∙ ap (λ f. pieces ++ cut_query f (length pieces) p.query p.tree) facts)
    (few_fragments known table lasts so.columns p c.requires.files ready))
