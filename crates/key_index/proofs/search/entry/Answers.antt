use Rattle.std.proofs.Common.{ap, ◌∙◌}
use Rattle.std.proofs.lemmas.Result.{MatchResult-weaker, err_from_is_err_and}
use Rattle.key_index.specs.Aims.{chosen, first_of, upto_number}
use Rattle.key_index.proofs.Fronts.{chosen_entry, front_number}
use Rattle.key_index.proofs.Passing.{entry_found, entry_stops}
use Rattle.key_index.proofs.search.entry.Goals as goal

pub returns-clause-told : goal.returns-clause-told
returns-clause-told g c = λ f entries e is holds at.
    let l = c.in_ok-page.ensures.told f entries is holds (front_number c.args.number entries) in
    let one = chosen_entry entries c.args.number e (chosen (upto_number c.args.number) (first_of l.leaf) l.leaf) at l.last in
    rw (← one.1, ← one.2) (c.leaf_entry.ensures.told f l.leaf (ap g.P.PageSource.image c.in_ok-page.ensures.whole ∙ is) l.stands l.front one.0)

pub returns-in_err-page-clause-told : goal.returns-in_err-page-clause-told
returns-in_err-page-clause-told g c = λ f entries e is holds at.
    let p = err_from_is_err_and c.from_residual.result c.from_residual.ensures.1 in
    rw (p.1, p.2) (c.in_err-page.ensures.told f entries is holds (front_number c.args.number entries))

pub returns-clause-path : goal.returns-clause-path
returns-clause-path g c = λ f is.
    let way = c.in_ok-page.ensures.path f is in
    MatchResult-weaker c.leaf_entry.result (c.leaf_entry.ensures.path f (ap g.P.PageSource.image c.in_ok-page.ensures.whole ∙ is))
    (entry_found c.args.index.now (f c.args.index.now.file) c.args.number c.in_ok-page.page c.in_ok-page.left way)
    (entry_stops c.args.index.now (f c.args.index.now.file) c.args.number c.in_ok-page.page c.in_ok-page.left way)
