use Rattle.std.proofs.Common.{◌≡◌, ◌<◌, ℕ, ap, ◌∙◌, arith}
use Rattle.std.proofs.lemmas.Result.{MatchResult-weaker}
use Rattle.std.specs.Prelude.{MatchResult}
use Rattle.key_index.specs.Aims.{passes}
use Rattle.key_index.specs.Searches.{NotBad}
use Rattle.key_index.proofs.Passing.{rank_found, rank_stops}
use Rattle.key_index.proofs.Searches.{ranks}
use Rattle.key_index.proofs.descent.rank.Goals as goal

pub returns-clause-told : goal.returns-clause-told
returns-clause-told g c = λ f entries is holds front.
    let l = c.in_ok-page.ensures.told f entries is holds front in
    ranks c.args.index.now (f c.args.index.now.file) entries (passes c.args.aim) (c.in_ok-page.page, c.in_ok-page.left) (λ (n : ℕ). MatchResult c.leaf_rank.result (λ rank. rank ≡ n) NotBad) holds l
    (c.leaf_rank.ensures.told f l.leaf (ap g.P.PageSource.image c.in_ok-page.ensures.whole ∙ is) l.stands l.front)

pub returns-clause-path : goal.returns-clause-path
returns-clause-path g c = λ f is.
    let some : 0 < c.args.index.now.entries = omega (arith, c.if-index-eq0.false) in
    let way = c.in_ok-page.ensures.path f is in
    MatchResult-weaker c.leaf_rank.result (c.leaf_rank.ensures.path f (ap g.P.PageSource.image c.in_ok-page.ensures.whole ∙ is))
    (rank_found c.args.index.now (f c.args.index.now.file) (passes c.args.aim) c.in_ok-page.page c.in_ok-page.left way)
    (rank_stops c.args.index.now (f c.args.index.now.file) (passes c.args.aim) c.in_ok-page.page c.in_ok-page.left way some)
