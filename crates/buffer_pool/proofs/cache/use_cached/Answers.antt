use Rattle.std.proofs.Common.{rules}
use Rattle.buffer_pool.proofs.Cached.{used_again}
use Rattle.buffer_pool.proofs.cache.use_cached.Goals as goal

pub returns-clause-used : goal.returns-clause-used
returns-clause-used c = used_again c.args.address c.args.cache.now c.promote.new.self c.in-Some.page (search rules) c.promote.ensures.entries
