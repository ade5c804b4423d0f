use Rattle.std.proofs.Common.{sym, ap, subst, ◌≡◌, ◌∙◌, List, length, map}
use Rattle.std.proofs.lemmas.Result.{IfOk-weaker}
use Rattle.rel_meaning.specs.Expression.{Expression, question_of}
use Rattle.plan_tree.specs.Conjuncts.{conjuncts}
use Rattle.plan_tree.specs.Views.{shape_of}
use Rattle.seq_optimizer.specs.declared.optimising.Found.{Found}
use Rattle.seq_optimizer.specs.Best.{IsBestTree, IsFound}
use Rattle.seq_optimizer.specs.Compared.{expression_at}
use Rattle.seq_optimizer.proofs.Chosen.{one_found, when_empty}
use Rattle.seq_optimizer.proofs.PlacedTrees.{found_best}
use Rattle.seq_optimizer.proofs.optimising.find.Goals as goal

pub returns-then-is_empty : goal.returns-then-is_empty
returns-then-is_empty c =
    let q = question_of c.args.query.now in
    let none : length q.vars ≡ 0 = sym c.requires.each ∙ when_empty (length c.args.stats.now) c.if-is_empty.ensures in
    one_found q c.args.stats.now c.args.method none (map expression_at c.as_slice.result.now) (ap (λ es. map expression_at es) c.as_slice.ensures.value ∙ c.in_ok-conjuncts.ensures) c.one_tree.result c.one_tree.ensures.tree c.one_tree.ensures.cost

pub returns : goal.returns
returns c =
    let q = question_of c.args.query.now in
    let cs = map expression_at c.as_slice-2.result.now in
    let same : cs ≡ conjuncts q.test = ap (λ es. map expression_at es) c.as_slice-2.ensures.value ∙ c.in_ok-conjuncts.ensures in
    IfOk-weaker c.best_tree.result (λ (f : Found). IsFound cs c.args.stats.now c.args.method (shape_of f.tree) f.cost) (λ (f : Found). IsBestTree q c.args.stats.now c.args.method (shape_of f.tree) f.cost)
    (λ f h. found_best q c.args.stats.now c.args.method (shape_of f.tree) f.cost c.requires.each (subst (λ (es : List Expression). IsFound es c.args.stats.now c.args.method (shape_of f.tree) f.cost) same h))
    c.best_tree.ensures
