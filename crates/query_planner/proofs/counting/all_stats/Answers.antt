use Rattle.std.proofs.Common.{◌≡◌, ◌+◌, ◌∙◌, ℕ, None, [], ◌∷◌, ◌++◌, ap, arith, length, length-append, IfSome}
use Rattle.std.proofs.lemmas.List.Elements.{All-push}
use Rattle.seq_optimizer.specs.Costs.{IsInterval}
use Rattle.seq_optimizer.specs.declared.stats.VarStats.{VarStats}
use Rattle.std.proofs.lemmas.Result.{err_from_is_err_and}
use Rattle.rel_meaning.specs.Expression.{question_of}
use Rattle.heap_page.proofs.Calm.{calm_then}
use Rattle.query_planner.specs.Known.{questions_in}
use Rattle.query_planner.proofs.Left.{one_left}
use Rattle.query_planner.proofs.SoFar.{one_counted, one_kept}
use Rattle.query_planner.proofs.counting.all_stats.Goals as goal

pub returns-in_err-stats_of-clause-told : goal.returns-in_err-stats_of-clause-told
returns-in_err-stats_of-clause-told g c = λ tables tells.
    let p = err_from_is_err_and c.from_residual.result c.from_residual.ensures.1 in
    let now = rw (← c.loop-var.invariant.whole) at tells in
    rw (p.1, p.2) (c.in_err-stats_of.ensures.told tables now)

pub loop-var-preserved : goal.loop-var-preserved
loop-var-preserved g c =
    let inv = c.loop-var.invariant in
    let step = c.in_ok-stats_of.ensures in
    let stats = c.loop-var.stats.items in
    let s = c.in_ok-stats_of.field-0 in
    let items : c.push.new.self.items ≡ stats ++ s ∷ [] = c.in_ok-push.ensures.items in
    record {
      whole = step.whole ∙ inv.whole;
      counts = λ d. omega (arith, inv.counts d, step.counts d);
      calm = calm_then g.P.PageSource.lone (g.P.PageSource.whole c.args.pages.now) (g.P.PageSource.whole c.loop-var.pages) None (g.P.PageSource.faults c.args.pages.now) (g.P.PageSource.faults c.loop-var.pages) (g.P.PageSource.faults c.stats_of.new.pages) inv.whole inv.calm step.quiet;
      count = ap length items ∙ (length-append stats (s ∷ []) ∙ ap (λ (n : ℕ). n + 1) inv.count);
      within = rw items (All-push (λ (x : VarStats). IfSome x.interval IsInterval) stats s inv.within step.within);
      left = rw items (one_left c.args.known.now.relations.now c.args.known.now.laid.now (g.P.PageSource.image (g.P.PageSource.whole c.args.pages.now)) (question_of c.args.query.now) stats c.loop-var.var s inv.count inv.left (rw inv.whole at step.left));
      of_kept = rw items (one_kept (length c.args.known.now.relations.now) c.args.known.now.kept.now
          (questions_in c.args.known.now) c.args.table.now (question_of c.args.query.now) stats
          c.loop-var.var s inv.count inv.of_kept step.of_kept);
      told = λ tables tells.
          let now = rw (← inv.whole) at tells in
          rw items
          (one_counted c.args.known.now.relations.now tables (question_of c.args.query.now) stats c.loop-var.var s inv.count (inv.told tables tells)
          (step.told tables now));
    }

pub returns-clause-told : goal.returns-clause-told
returns-clause-told g c = λ tables tells. rw c.from_vec.ensures
    (c.loop-var.invariant.told tables tells)

pub returns-in_err-stats_of-clause-quiet : goal.returns-in_err-stats_of-clause-quiet
returns-in_err-stats_of-clause-quiet g c =
    let p = err_from_is_err_and c.from_residual.result c.from_residual.ensures.1 in
    rw (p.1, p.2) (calm_then g.P.PageSource.lone (g.P.PageSource.whole c.args.pages.now) (g.P.PageSource.whole c.loop-var.pages) _ (g.P.PageSource.faults c.args.pages.now) (g.P.PageSource.faults c.loop-var.pages) (g.P.PageSource.faults c.stats_of.new.pages) c.loop-var.invariant.whole c.loop-var.invariant.calm c.in_err-stats_of.ensures.quiet)
