use Rattle.run_lock.specs.Passes.{IsFree}
use Rattle.buffer_pool.proofs.Pairs.{each_from}
use Rattle.buffer_pool.proofs.Sharing.{are_read, covers_back}
use Rattle.buffer_pool.proofs.shared.SharedPool.close.Goals as goal

pub unlock_all-requires-clause-pairs : goal.unlock_all-requires-clause-pairs
unlock_all-requires-clause-pairs g c = each_from IsFree c.args.self.locks.items c.args.seat.passes.items c.requires.count c.requires.free

pub returns-clause-seen : goal.returns-clause-seen
returns-clause-seen g c = covers_back g.D.Drive c.args.self.locks.items c.args.seat.passes.items c.unlock_all.result.items c.requires.count c.unlock_all.ensures.seen

pub returns-clause-read : goal.returns-clause-read
returns-clause-read g c = are_read g.D.Drive _ _ c.unlock_all.ensures.drives
