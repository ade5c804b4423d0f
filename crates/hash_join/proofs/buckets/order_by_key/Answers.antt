use Rattle.std.proofs.Common.{rules, ◌≡◌, map}
use Rattle.std.specs.Ordering.{is_lt}
use Rattle.std.proofs.lemmas.Fn.{always_returns_same}
use Rattle.std.proofs.lemmas.List.Sorted.{ranks_by}
use Rattle.hash_join.specs.Making.{goes_first, pair_of}
use Rattle.hash_join.specs.Table.{Table}
use Rattle.hash_join.proofs.Spread.{pair_total}
use Rattle.hash_join.proofs.buckets.order_by_key.Goals as goal

pub returns : goal.returns
returns c =
    let table : Table = record { lists = map (λ x. x.value) c.args.parts.now; columns = c.args.columns.now } in
    let ranks = ranks_by pair_total (pair_of table) in
    let answers = always_returns_same _ (λ a r. is_lt r ≡ goes_first table a.0.now a.1.0.now) _ (λ a r f' k. search rules) in
    record {
      same = c.in_ok-sort_by.ensures.permutation;
      sorted = c.in_ok-sort_by.ensures.sorted (goes_first table) ranks answers;
      stable = c.in_ok-sort_by.ensures.stable (goes_first table) ranks answers;
    }
