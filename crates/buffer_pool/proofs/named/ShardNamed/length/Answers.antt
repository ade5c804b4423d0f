use Rattle.std.proofs.Common.{◌∙◌, sym}
use Rattle.buffer_pool.proofs.Counting.{length-up_to}
use Rattle.buffer_pool.proofs.named.ShardNamed.length.Goals as goal

pub returns-clause-counts : goal.returns-clause-counts
returns-clause-counts g c = c.failed_reads.ensures.value ∙ sym (length-up_to c.args.self.now.counter)
