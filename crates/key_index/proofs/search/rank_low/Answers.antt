use Rattle.std.proofs.Common.{◌≡◌, ℕ, subst}
use Rattle.std.specs.Prelude.{MatchResult}
use Rattle.key_index.specs.Searches.{NotBad}
use Rattle.key_index.proofs.Fronts.{count_below, front_below}
use Rattle.key_index.proofs.search.rank_low.Goals as goal

pub returns-clause-told : goal.returns-clause-told
returns-clause-told g c = λ f entries is holds.
    subst (λ (n : ℕ). MatchResult c.rank.result (λ found. found ≡ n) NotBad) (count_below c.args.key.now entries) (c.rank.ensures.told f entries is holds (front_below c.args.key.now entries holds.legal.ordered))
