use Rattle.std.proofs.Common.{map}
use Rattle.hash_join.specs.Table.{Table}
use Rattle.hash_join.proofs.Spread.{ordered}
use Rattle.hash_join.proofs.buckets.ordered.Goals as goal

pub returns : goal.returns
returns c =
    let table : Table = record { lists = map (λ x. x.value) c.args.parts.now; columns = c.args.columns.now } in
    ordered table c.args.places.now _ _ _ c.in_ok-entries.ensures c.in_ok-order_by_hash.ensures c.in_ok-order_by_key.ensures
