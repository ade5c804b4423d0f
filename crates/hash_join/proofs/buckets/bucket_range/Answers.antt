use Rattle.std.proofs.Common.{arith}
use Rattle.hash_join.proofs.Starts.{starts_rise}
use Rattle.hash_join.proofs.buckets.bucket_range.Goals as goal

pub returns-clause-order : goal.returns-clause-order
returns-clause-order c = starts_rise c.args.hashes.now c.args.starts.now c.requires c.bucket_of-number.result (omega (arith, c.requires.some, c.bucket_of-number.ensures.within))
