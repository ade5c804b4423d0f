use Rattle.std.proofs.Common.{rules, ◌≡◌}
use Rattle.std.specs.Ordering.{is_lt}
use Rattle.std.proofs.lemmas.Cmp.{nat_cmp_total}
use Rattle.std.proofs.lemmas.Fn.{always_returns_same}
use Rattle.std.proofs.lemmas.List.Sorted.{ranks_by}
use Rattle.hash_join.specs.declared.buckets.Entry.{Entry}
use Rattle.hash_join.specs.Making.{has_less_hash}
use Rattle.hash_join.proofs.buckets.order_by_hash.Goals as goal

pub returns : goal.returns
returns c =
    let ranks = ranks_by nat_cmp_total (λ (entry : Entry). entry.hash) in
    let answers = always_returns_same _ (λ a r. is_lt r ≡ has_less_hash a.0.now a.1.0.now) _ (λ a r f' k. search rules) in
    record {
      same = c.in_ok-sort_by.ensures.permutation;
      sorted = c.in_ok-sort_by.ensures.sorted has_less_hash ranks answers;
      stable = c.in_ok-sort_by.ensures.stable has_less_hash ranks answers;
    }
