use Rattle.std.proofs.Common.{◌≡◌, ◌∙◌, ◌++◌, ◌∷◌, [], ap, map, subst, sym}
use Rattle.std.proofs.lemmas.List.{append-nil}
use Rattle.rows.specs.Layouts.{IsRowIn, column_in}
use Rattle.rel_meaning.specs.Expression.{expression_of}
use Rattle.plan_tree.specs.Combining.{combined}
use Rattle.plan_tree.specs.Conjuncts.{all_met}
use Rattle.plan_tree.specs.Fragments.{added}
use Rattle.plan_tree.specs.Rows.{kept}
use Rattle.pipeline.specs.Taking.{taken_value}
use Rattle.pipeline.proofs.Kept.{kept_none, kept_one}
use Rattle.pipeline.proofs.Taken.{combined_is}
use Rattle.pipeline.proofs.probe.put_joined.Goals as goal

pub are_true-requires-clause-row : goal.are_true-requires-clause-row
are_true-requires-clause-row c =
    let layout = c.args.probe.now.layout in
    let before = c.args.before.now in
    let a = c.args.built.now in
    let b = c.args.row.now in
    let is : c.in_ok-joined.joined ≡ combined layout (added before layout) before a b =
    c.in_ok-joined.ensures ∙ (λ i. map (λ t. taken_value t (c.items.ensures i) (c.items-2.ensures i)) ((c.as_slice.ensures.value ∙ c.requires.taken) i)) ∙ combined_is (added before layout) before a b layout in
    subst (IsRowIn layout) (sym is) c.requires.fits

pub returns-in_ok-push : goal.returns-in_ok-push
returns-in_ok-push c =
    let layout = c.args.probe.now.layout in
    let before = c.args.before.now in
    let a = c.args.built.now in
    let b = c.args.row.now in
    let tests = map expression_of c.args.probe.now.tests in
    let is : c.in_ok-joined.joined ≡ combined layout (added before layout) before a b =
    c.in_ok-joined.ensures ∙ (λ i. map (λ t. taken_value t (c.items.ensures i) (c.items-2.ensures i)) ((c.as_slice.ensures.value ∙ c.requires.taken) i)) ∙ combined_is (added before layout) before a b layout in
    c.in_ok-push.ensures.items
    ∙ ap (λ row. c.args.out.now.items ++ row ∷ []) is
    ∙ ap (λ rows. c.args.out.now.items ++ rows) (sym (kept_one layout tests (combined layout (added before layout) before a b) c.in_ok-are_true.field-0
    (c.in_ok-are_true.ensures ∙ (λ i. all_met (map expression_of (c.items-3.ensures i)) (column_in layout (is i)))) c.if-branch.true))

pub returns-else-branch : goal.returns-else-branch
returns-else-branch c =
    let layout = c.args.probe.now.layout in
    let before = c.args.before.now in
    let a = c.args.built.now in
    let b = c.args.row.now in
    let tests = map expression_of c.args.probe.now.tests in
    let is : c.in_ok-joined.joined ≡ combined layout (added before layout) before a b =
    c.in_ok-joined.ensures ∙ (λ i. map (λ t. taken_value t (c.items.ensures i) (c.items-2.ensures i)) ((c.as_slice.ensures.value ∙ c.requires.taken) i)) ∙ combined_is (added before layout) before a b layout in
    sym (ap (λ rows. c.args.out.now.items ++ rows) (kept_none layout tests (combined layout (added before layout) before a b) c.in_ok-are_true.field-0
    (c.in_ok-are_true.ensures ∙ (λ i. all_met (map expression_of (c.items-3.ensures i)) (column_in layout (is i)))) c.if-branch.false)
    ∙ append-nil c.args.out.now.items)
