use Rattle.std.proofs.Common.{map, ◌∙◌, ◌-◌, ap, take, drop}
use Rattle.hash_join.specs.Table.{Table}
use Rattle.hash_join.proofs.Spread.{looked_up, searchable_hashes, some_columns}
use Rattle.hash_join.proofs.buckets.places_with.Goals as goal

pub hash_range-from-requires-clause-rising : goal.hash_range-from-requires-clause-rising
hash_range-from-requires-clause-rising c =
    let table : Table = record { lists = map (λ x. x.value) c.args.parts.now; columns = c.args.columns.now } in
    let buckets = c.args.buckets.now in
    searchable_hashes table buckets.places.items buckets.hashes.items c.as_slice-2.result.now buckets.starts.items c.requires (some_columns c.args.columns.now c.is_empty.result c.is_empty.ensures c.if-is_empty.false) c.as_slice-2.ensures.value

pub run_with-requires-2 : goal.run_with-requires-2
run_with-requires-2 c =
    let table : Table = record { lists = map (λ x. x.value) c.args.parts.now; columns = c.args.columns.now } in
    let buckets = c.args.buckets.now in
    let from = c.hash_range-from.result.0 in
    let to = c.hash_range-from.result.1 in
    (looked_up table buckets.places.items (take (to - from) (drop from c.deref.result.now)) buckets.hashes.items c.as_slice-2.result.now buckets.starts.items c.args.key.now c.hash_key.result from to c.requires
    (some_columns c.args.columns.now c.is_empty.result c.is_empty.ensures c.if-is_empty.false) c.as_slice-2.ensures.value c.hash_key.ensures c.hash_range-from.ensures (ap (λ xs. take (to - from) (drop from xs)) c.deref.ensures.value)).0

pub returns : goal.returns
returns c =
    let table : Table = record { lists = map (λ x. x.value) c.args.parts.now; columns = c.args.columns.now } in
    let buckets = c.args.buckets.now in
    let from = c.hash_range-from.result.0 in
    let to = c.hash_range-from.result.1 in
    c.run_with-2.ensures
    ∙ (looked_up table buckets.places.items (take (to - from) (drop from c.deref.result.now)) buckets.hashes.items c.as_slice-2.result.now buckets.starts.items c.args.key.now c.hash_key.result from to c.requires
    (some_columns c.args.columns.now c.is_empty.result c.is_empty.ensures c.if-is_empty.false) c.as_slice-2.ensures.value c.hash_key.ensures c.hash_range-from.ensures (ap (λ xs. take (to - from) (drop from xs)) c.deref.ensures.value)).1
