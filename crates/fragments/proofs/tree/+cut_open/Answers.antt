use Rattle.std.proofs.Common.{◌≡◌, ◌∙◌, ◌+◌, ap, sym, subst, map, IfOk}
use Rattle.std.proofs.lemmas.Result.{IfOk-weaker}
use Rattle.rel_meaning.specs.Expression.{expression_of}
use Rattle.plan_tree.specs.Combining.{merged}
use Rattle.plan_tree.specs.Pieces.{pieces_of, sorting}
use Rattle.plan_tree.specs.Trees.{has}
use Rattle.plan_tree.specs.Views.{shape_of}
use Rattle.plan_tree.specs.WellFormed.{sort_key}
use Rattle.fragments.specs.Cuts.{merge_of}
use Rattle.fragments.specs.Opened.{GivesCut, IsOpen, IsSide, facts_in, opening_of}
use Rattle.fragments.proofs.TreeCuts.{merge_cut_is}
use Rattle.fragments.proofs.tree.+cut_open.Goals as goal

pub returns-in_ok-second-in-Merge-2-clause-cut : goal.returns-in_ok-second-in-Merge-2-clause-cut
returns-in_ok-second-in-Merge-2-clause-cut t c =
    let facts = facts_in c.args.statement.now in
    let a = c.in-Merge.left.value in
    let b = c.in-Merge.right.value in
    let keys = c.in-Merge.keys in
    let tests = map expression_of c.in-Merge.tests in
    let first = c.in_ok-first-in-Merge.first in
    let second = c.in_ok-second-in-Merge.second in
    let left = c.in_ok-first-in-Merge-2.first in
    let right = c.in_ok-second-in-Merge-2.second in
    let old = pieces_of c.args.fragments.now.items in
    let one = pieces_of c.cut_open-in-Merge.new.fragments.items in
    let two = pieces_of c.push_sort.new.fragments.items in
    let three = pieces_of c.cut_open-in-Merge-2.new.fragments.items in
    let four = pieces_of c.push_sort-in-Merge.new.fragments.items in
    let rows = c.merged_rows-rows.result in
    let counted = c.merged_rows-rows.ensures ∙ (λ i. facts.size (has (shape_of (c.deref-in-Merge.ensures i))) + facts.size (has (shape_of (c.deref-in-Merge-2.ensures i)))) in
    subst (λ tree. IfOk c.merge_open.result (λ o. GivesCut facts (shape_of tree) old four (opening_of o) o.layout)) (sym c.in-Merge.is)
    (IfOk-weaker c.merge_open.result (λ o. IsOpen o (merge_of left.number right.number left.layout right.layout keys tests rows) (merged left.layout right.layout)) _
    (λ o h. merge_cut_is facts (shape_of a) (shape_of b) keys tests old one two three (opening_of first) (opening_of second) first.layout second.layout left.layout right.layout left.number right.number rows
    c.deref-in-Merge-4.result.now c.deref-in-Merge-6.result.now four o
    (subst (λ x. GivesCut facts (shape_of x) old one (opening_of first) first.layout) c.deref-in-Merge-3.ensures c.in_ok-first-in-Merge.ensures.cut)
    c.in_ok-first-in-Merge-2.ensures.side
    (c.deref-in-Merge-4.ensures.value ∙ c.in_ok-build_columns-in-Merge.ensures)
    (subst (λ x. GivesCut facts (shape_of x) two three (opening_of second) second.layout) c.deref-in-Merge-5.ensures c.in_ok-second-in-Merge.ensures.cut)
    c.in_ok-second-in-Merge-2.ensures.side
    (c.deref-in-Merge-6.ensures.value ∙ c.in_ok-probe_columns-in-Merge.ensures)
    counted h)
    c.merge_open.ensures.is)
