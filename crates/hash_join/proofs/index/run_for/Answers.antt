use Rattle.std.proofs.Common.{rules, sym, subst, map, List, []}
use Rattle.std.specs.declared.cmp.Ordering.{Ordering}
use Rattle.std.specs.Ordering.{is_lt, is_le, ordering_index}
use Rattle.std.specs.List.Sorted.{IsNonDecreasingBy}
use Rattle.std.specs.Cmp.Lexicographic.{slice_cmp}
use Rattle.std.proofs.lemmas.List.{take_rest}
use Rattle.std.proofs.lemmas.List.Sorted.{searchable_from_sorted, IsNonDecreasingBy-drop, IsPartitionPoint-from_clause}
use Rattle.rows.proofs.Orders.{row_total}
use Rattle.rows.specs.declared.value.Value.{Value}
use Rattle.rows.specs.Values.{value_cmp}
use Rattle.hash_join.specs.declared.table.RowPlace.{RowPlace}
use Rattle.hash_join.specs.Table.{Table, key_of, row_at}
use Rattle.hash_join.proofs.Runs.{below_parted, upto_parted, equal_slice}
use Rattle.hash_join.proofs.index.run_for.Goals as goal

pub returns : goal.returns
returns c =
    let table : Table = record { lists = map (λ x. x.value) c.args.parts.now; columns = c.args.columns.now } in
    let wanted = key_of c.args.others.now c.args.row.now in
    let key : RowPlace → List Value = λ at. key_of table.columns (row_at table.lists at) in
    let order : RowPlace → Ordering = λ at. slice_cmp value_cmp (key at) wanted in
    let index = c.args.index.now in
    let start = c.partition_point-start.result in
    let e = take_rest index start in
    let up = searchable_from_sorted (row_total []) key index wanted c.requires in
    let up_rest = subst (IsNonDecreasingBy (λ at. ordering_index (order at))) (sym e) (IsNonDecreasingBy-drop (λ at. ordering_index (order at)) start index up) in
    equal_slice order index _ start c.partition_point-size.result e c.partition_point-start.ensures.bound c.partition_point-size.ensures.bound
    (IsPartitionPoint-from_clause (λ at. is_lt (order at)) index start c.partition_point-start.ensures.partitioned (below_parted order index up) (λ a r f' h. search rules))
    (IsPartitionPoint-from_clause (λ at. is_le (order at)) _ c.partition_point-size.result c.partition_point-size.ensures.partitioned (upto_parted order _ up_rest) (λ a r f' h. search rules))
