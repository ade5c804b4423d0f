use Rattle.std.proofs.Common.{rules, ◌≡◌}
use Rattle.std.specs.Ordering.{is_lt}
use Rattle.std.proofs.lemmas.Fn.{always_returns_same}
use Rattle.std.proofs.lemmas.List.Sorted.{ranks_by}
use Rattle.lists.proofs.Arranging.{ascends_from_sorted}
use Rattle.key_index.specs.Entries.{entry_cmp}
use Rattle.table_store.proofs.Placed.{entry_total}
use Rattle.table_store.proofs.entries.sort_entries.Goals as goal

pub returns-clause-ordered : goal.returns-clause-ordered
returns-clause-ordered c =
    ascends_from_sorted entry_total _ (c.in_ok-sort_by.ensures.sorted (λ a b. is_lt (entry_cmp a b)) (ranks_by entry_total (λ e. e))
    (always_returns_same _ (λ a r. is_lt r ≡ is_lt (entry_cmp a.0.now a.1.0.now)) _ (λ a r f' k. search rules)))
