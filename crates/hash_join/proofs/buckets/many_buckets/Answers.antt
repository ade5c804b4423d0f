use Rattle.std.proofs.Common.{◌≡◌, ◌∙◌, map, ap, subst, sym}
use Rattle.std.specs.List.Sorted.{IsNonDecreasing}
use Rattle.hash_join.specs.Found.{AreFound, AreStarts}
use Rattle.hash_join.specs.Making.{AreOrdered, places_in_order}
use Rattle.hash_join.specs.Table.{Table}
use Rattle.hash_join.proofs.Spread.{hashes_rise, if_ok_three, made}
use Rattle.hash_join.proofs.buckets.many_buckets.Goals as goal

pub parted-requires-clause-rising : goal.parted-requires-clause-rising
parted-requires-clause-rising c =
    let table : Table = record { lists = map (λ x. x.value) c.args.parts.now; columns = c.args.columns.now } in
    subst (λ entries. IsNonDecreasing (map (λ entry. entry.hash) entries)) (sym c.as_slice.ensures.value) (hashes_rise table c.args.index.now c.in_ok-entries.entries.items c.in_ok-entries.ensures)

pub returns : goal.returns
returns c =
    let table : Table = record { lists = map (λ x. x.value) c.args.parts.now; columns = c.args.columns.now } in
    let entries = c.in_ok-entries.entries.items in
    let same = c.as_slice.ensures.value in
    if_ok_three
    (λ buckets. buckets.places.items ≡ places_in_order c.as_slice.result.now)
    (λ buckets. buckets.hashes.items ≡ map (λ entry. entry.hash) c.as_slice.result.now)
    (λ buckets. AreStarts buckets.hashes.items buckets.starts.items)
    (λ buckets. AreFound table buckets.places.items buckets.hashes.items buckets.starts.items)
    c.parted.result
    (λ buckets places' hashes starts. made table entries buckets.places.items buckets.hashes.items buckets.starts.items (subst (λ index. AreOrdered table index entries) c.requires c.in_ok-entries.ensures) (places' ∙ ap places_in_order same) (hashes ∙ ap (map (λ entry. entry.hash)) same) starts)
    c.parted.ensures.places c.parted.ensures.hashes c.parted.ensures.starts
