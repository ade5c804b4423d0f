use Rattle.std.proofs.Common.{◌≡◌, ◌+◌, ◌∙◌, ℕ, None, Option, Some, List, [], ◌∷◌, ◌++◌, ap, arith, length, length-append, map}
use Rattle.std.specs.Prelude.{option_map, slice_get}
use Rattle.std.proofs.lemmas.List.{length-map, map-append}
use Rattle.std.proofs.lemmas.Option.{slice_get-map}
use Rattle.std.proofs.lemmas.Result.{err_from_is_err_and}
use Rattle.heap_page.proofs.Calm.{calm_then}
use Rattle.heap_page.proofs.Found.{some_at}
use Rattle.plan_tree.specs.declared.tree.Plan.{Plan}
use Rattle.plan_tree.specs.Views.{planned_of}
use Rattle.rel_meaning.specs.declared.query.Query.{Query}
use Rattle.rel_meaning.specs.Expression.{question_of}
use Rattle.seq_optimizer.specs.Costs.{CanPlan}
use Rattle.query_planner.specs.Counted.{CountTables}
use Rattle.query_planner.specs.Known.{questions_in}
use Rattle.query_planner.specs.Plans.{AreLeft}
use Rattle.query_planner.proofs.SoFar.{all_found, all_stats, one_first, one_more_kept, one_planned}
use Rattle.query_planner.proofs.Statements.{plan_at}
use Rattle.query_planner.proofs.planning.plans_of.Goals as goal

question_there : (queries : List Query) (i : ℕ) (query : Query) → slice_get queries i ≡ Some query →
    slice_get (map question_of queries) i ≡ Some (question_of query)
question_there queries i query at = slice_get-map question_of queries i ∙
    ap (λ (o : Option Query). option_map question_of o) at

pub plan_of-requires-clause-query : goal.plan_of-requires-clause-query
plan_of-requires-clause-query g c =
    let known = c.args.known.now in
    let at = question_there known.queries.now c.loop-query.query-index c.query-item.result
    (some_at known.queries.now c.loop-query.query-index c.query-item.result
    c.loop-query-test.true c.query-item.is) in
    rw (c.as_slice.ensures.value, c.loop-query.invariant.table_count)
    (plan_at known.relations.now known.kept.now (questions_in known) c.requires.queries
    c.loop-query.query-index (question_of c.query-item.result) at)

pub plan_of-requires-clause-table : goal.plan_of-requires-clause-table
plan_of-requires-clause-table g c =
    let known = c.args.known.now in
    rw c.as_slice.ensures.value (record {
      within = omega (
        arith,
        length-map known.queries.now question_of,
        c.loop-query.invariant.table_count,
        c.loop-query-test.true,
      );
      each = c.loop-query.invariant.can;
    })

pub returns-in_err-made-clause-told : goal.returns-in_err-made-clause-told
returns-in_err-made-clause-told g c = λ tables tells.
    let p = err_from_is_err_and c.from_residual.result c.from_residual.ensures.1 in
    let now = rw (← c.loop-query.invariant.whole) at tells in
    rw (p.1, p.2) (c.in_err-made.ensures.told tables now)

pub loop-query-preserved : goal.loop-query-preserved
loop-query-preserved g c =
    let known = c.args.known.now in
    let image = g.P.PageSource.image (g.P.PageSource.whole c.args.pages.now) in
    let inv = c.loop-query.invariant in
    let step = c.in_ok-made.ensures in
    let plans = c.loop-query.plans.items in
    let table = c.loop-query.table.items in
    let plan = c.in_ok-made.made.plan in
    let stats = c.in_ok-made.made.stats in
    let place = c.loop-query.query-index in
    let qs = questions_in known in
    let q = question_of c.query-item.result in
    let at = question_there known.queries.now place c.query-item.result
    (some_at known.queries.now place c.query-item.result c.loop-query-test.true c.query-item.is)
    in
    let items : c.push.new.self.items ≡ plans ++ plan ∷ [] = c.in_ok-push.ensures.items in
    let rows : c.push-in-loop-query.new.self.items ≡ table ++ stats ∷ [] =
    c.in_ok-push-2.ensures.items in
    let more : map planned_of c.push.new.self.items ≡ map planned_of plans ++ planned_of plan ∷ [] =
    ap (λ (ps : List Plan). map planned_of ps) items ∙
    map-append planned_of plans (plan ∷ []) in
    record {
      whole = step.whole ∙ inv.whole;
      counts = λ d. omega (arith, inv.counts d, step.counts d);
      calm = calm_then g.P.PageSource.lone (g.P.PageSource.whole c.args.pages.now) (g.P.PageSource.whole c.loop-query.pages) None (g.P.PageSource.faults c.args.pages.now) (g.P.PageSource.faults c.loop-query.pages) (g.P.PageSource.faults c.plan_of.new.pages) inv.whole inv.calm step.quiet;
      count = ap length items ∙ (length-append plans (plan ∷ []) ∙ ap (λ (n : ℕ). n + 1) inv.count);
      table_count = ap length rows ∙ (length-append table (stats ∷ []) ∙
          ap (λ (n : ℕ). n + 1) inv.table_count);
      can = rw rows (one_first CanPlan qs table place q stats inv.table_count inv.can at step.can);
      plans = rw (rows, more) (one_planned c.args.method qs table (map planned_of plans) place q
          stats (planned_of plan) inv.table_count (length-map plans planned_of ∙ inv.count)
          inv.plans at step.plan);
      left = rw rows (one_first (AreLeft known.relations.now known.laid.now image) qs table place q
          stats inv.table_count inv.left at (rw inv.whole at step.left));
      of_kept = rw rows (one_more_kept (length known.relations.now) known.kept.now qs table place q
          stats inv.table_count (plan_at known.relations.now known.kept.now qs c.requires.queries)
          inv.of_kept at (rw c.as_slice.ensures.value at step.of_kept));
      told = λ tables tells.
          let now = rw (← inv.whole) at tells in
          rw rows (one_first (CountTables known.relations.now tables) qs table place q stats
          inv.table_count (inv.told tables tells) at (step.told tables now));
    }

pub returns-clause-trees : goal.returns-clause-trees
returns-clause-trees g c =
    let known = c.args.known.now in
    let inv = c.loop-query.invariant in
    let queries = known.queries.now in
    rw (c.from_vec.ensures, c.from_vec-2.ensures) (record {
      stats = all_found known.relations.now known.laid.now
          (g.P.PageSource.image (g.P.PageSource.whole c.args.pages.now)) known.kept.now
          (questions_in known) c.loop-query.table.items
          (omega (arith, length-map queries question_of, inv.table_count)) inv.can inv.left
          inv.of_kept;
      plans = record {
        count = omega (
          arith,
          length-map c.loop-query.plans.items planned_of,
          length-map queries question_of,
          inv.count,
        );
        each = inv.plans;
      };
    })

pub returns-clause-told : goal.returns-clause-told
returns-clause-told g c = λ tables tells.
    let known = c.args.known.now in
    let inv = c.loop-query.invariant in
    let queries = known.queries.now in
    rw (c.from_vec.ensures, c.from_vec-2.ensures) (record {
      stats = all_stats known.relations.now tables known.kept.now (questions_in known)
          c.loop-query.table.items (omega (arith, length-map queries question_of, inv.table_count))
          inv.can (inv.told tables tells) inv.of_kept;
      plans = record {
        count = omega (
          arith,
          length-map c.loop-query.plans.items planned_of,
          length-map queries question_of,
          inv.count,
        );
        each = inv.plans;
      };
    })

pub returns-in_err-made-clause-quiet : goal.returns-in_err-made-clause-quiet
returns-in_err-made-clause-quiet g c =
    let p = err_from_is_err_and c.from_residual.result c.from_residual.ensures.1 in
    rw (p.1, p.2) (calm_then g.P.PageSource.lone (g.P.PageSource.whole c.args.pages.now)
    (g.P.PageSource.whole c.loop-query.pages) _ (g.P.PageSource.faults c.args.pages.now)
    (g.P.PageSource.faults c.loop-query.pages) (g.P.PageSource.faults c.plan_of.new.pages)
    c.loop-query.invariant.whole c.loop-query.invariant.calm c.in_err-made.ensures.quiet)
