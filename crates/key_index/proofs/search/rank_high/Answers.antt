use Rattle.std.proofs.Common.{◌≡◌, ℕ, subst}
use Rattle.std.specs.Prelude.{MatchResult}
use Rattle.key_index.specs.Searches.{NotBad}
use Rattle.key_index.proofs.Fronts.{count_key, front_key}
use Rattle.key_index.proofs.search.rank_high.Goals as goal

pub returns-clause-told : goal.returns-clause-told
returns-clause-told g c = λ f entries is holds.
    subst (λ (n : ℕ). MatchResult c.rank.result (λ found. found ≡ n) NotBad) (count_key c.args.key.now entries) (c.rank.ensures.told f entries is holds (front_key c.args.key.now entries holds.legal.ordered))
