use Rattle.std.proofs.Common.{◌∙◌, sym, subst, ◌<◌, List, ap, ◌++◌, ◌∷◌, [], length, map, take}
use Rattle.std.specs.Prelude.{All}
use Rattle.rel_meaning.specs.Expression.{Expression, expression_of, question_of}
use Rattle.rows.specs.declared.plain.Bound.{Bound}
use Rattle.seq_optimizer.specs.Bounds.{IsFitComparison, bound_of, bounds_of}
use Rattle.seq_optimizer.specs.Compared.{expression_at}
use Rattle.seq_optimizer.proofs.Fitting.{conjuncts_fit}
use Rattle.seq_optimizer.proofs.Walks.{at_walk, filter_map_more}
use Rattle.seq_optimizer.proofs.bounds.bounds_of.Goals as goal

pub put_bound-requires : goal.put_bound-requires
put_bound-requires c =
    let each = subst (λ (es : List Expression). All IsFitComparison es) (sym c.in_ok-conjuncts.ensures) (conjuncts_fit (question_of c.args.query.now).test c.requires) in
    let within : c.loop-conjunct.conjunct-index < length c.in_ok-conjuncts.conjuncts.items = rw (← c.deref-conjunct-items.ensures.value) c.loop-conjunct-test.true in
    let here = at_walk IsFitComparison c.in_ok-conjuncts.conjuncts.items c.loop-conjunct.conjunct-index c.conjunct-item.result each within in
    rw (c.conjunct-item.is, c.deref-conjunct-items.ensures.value) here

pub loop-conjunct-preserved : goal.loop-conjunct-preserved
loop-conjunct-preserved c =
    let more = filter_map_more (bound_of c.args.var c.args.column) c.deref-conjunct-items.result.now c.loop-conjunct.conjunct-index c.conjunct-item.result c.loop-conjunct-test.true in
    let last = ap (λ x. bounds_of c.args.var c.args.column (expression_at x ∷ [])) c.conjunct-item.is in
    c.in_ok-put_bound.ensures ∙ ap (λ (bs : List Bound). bs ++ bounds_of c.args.var c.args.column (expression_of c.conjunct-item.result.now ∷ [])) c.loop-conjunct.invariant
    ∙ ap (λ (bs : List Bound). bounds_of c.args.var c.args.column (map expression_at (take c.loop-conjunct.conjunct-index c.deref-conjunct-items.result.now)) ++ bs) last ∙ sym more
