use Rattle.std.proofs.Common.{◌∙◌, map}
use Rattle.hash_join.specs.Table.{Table}
use Rattle.hash_join.proofs.Spread.{all_found, no_columns}
use Rattle.hash_join.proofs.buckets.buckets_of.Goals as goal

pub returns-then-is_empty : goal.returns-then-is_empty
returns-then-is_empty c =
    let table : Table = record { lists = map (λ x. x.value) c.args.parts.now; columns = c.args.columns.now } in
    all_found table _ _ _ (no_columns c.args.columns.now c.is_empty.result c.is_empty.ensures c.if-is_empty.true) (c.one_bucket.ensures ∙ c.in_ok-places.ensures)
