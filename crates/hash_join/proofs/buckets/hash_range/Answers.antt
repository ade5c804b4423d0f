use Rattle.std.proofs.Common.{rules, ◌-◌, take, drop}
use Rattle.std.specs.Ordering.{is_le, is_lt, nat_cmp}
use Rattle.std.proofs.lemmas.List.Sorted.{IsPartitionPoint-from_clause}
use Rattle.hash_join.proofs.Runs.{below_parted, upto_parted}
use Rattle.hash_join.proofs.Starts.{part_searchable, range}
use Rattle.hash_join.proofs.buckets.hash_range.Goals as goal

pub returns : goal.returns
returns c =
    let hashes = c.args.hashes.now in
    let begin = c.bucket_range-begin.result.0 in
    let end = c.bucket_range-begin.result.1 in
    let part = take (end - begin) (drop begin hashes) in
    let rising = part_searchable hashes c.args.hash begin end c.requires.rising in
    range hashes c.args.starts.now c.args.hash begin end c.partition_point-from.result c.partition_point-to.result c.requires.starts c.requires.rising
    c.bucket_range-begin.ensures.number c.bucket_range-begin.ensures.begin c.bucket_range-begin.ensures.end c.bucket_range-begin.ensures.order c.bucket_range-begin.ensures.within
    c.partition_point-from.ensures.bound c.partition_point-to.ensures.bound
    (IsPartitionPoint-from_clause (λ other. is_lt (nat_cmp other c.args.hash)) part c.partition_point-from.result c.partition_point-from.ensures.partitioned (below_parted (λ other. nat_cmp other c.args.hash) part rising) (λ a r f' h. search rules))
    (IsPartitionPoint-from_clause (λ other. is_le (nat_cmp other c.args.hash)) part c.partition_point-to.result c.partition_point-to.ensures.partitioned (upto_parted (λ other. nat_cmp other c.args.hash) part rising) (λ a r f' h. search rules))
