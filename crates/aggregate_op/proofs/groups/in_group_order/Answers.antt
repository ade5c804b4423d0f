use Rattle.std.proofs.Common.{rules, ◌≡◌, [], map, subst}
use Rattle.std.specs.List.Sorted.{IsPermutation}
use Rattle.std.specs.Ordering.{is_lt}
use Rattle.std.proofs.lemmas.Fn.{always_returns_same}
use Rattle.std.proofs.lemmas.List.Sorted.{ranks_by, IsPermutation-map}
use Rattle.rows.proofs.Orders.{row_total}
use Rattle.aggregate_op.specs.Partials.{group_of}
use Rattle.aggregate_op.specs.Runs.{group_order, seen}
use Rattle.aggregate_op.proofs.GroupRuns.{ascends_seen}
use Rattle.aggregate_op.proofs.groups.in_group_order.Goals as goal

pub returns-clause-moved : goal.returns-clause-moved
returns-clause-moved c =
    subst (λ rows. IsPermutation rows (map seen c.sort_by.new.self.items)) c.in_ok-ordered.ensures
    (IsPermutation-map seen _ _ c.in_ok-sort_by.ensures.permutation)

pub returns-clause-ascend : goal.returns-clause-ascend
returns-clause-ascend c =
    let fold = c.args.fold.now in
    ascends_seen fold _
    (c.in_ok-sort_by.ensures.sorted (λ a b. is_lt (group_order fold (seen a) (seen b))) (ranks_by (row_total []) (λ row. group_of fold (seen row)))
    (always_returns_same _ (λ a r. is_lt r ≡ is_lt (group_order fold (seen a.0.now) (seen a.1.0.now))) _ (λ a r f' k. search rules)))
