use Rattle.run_lock.specs.Passes.{IsFree}
use Rattle.buffer_pool.proofs.Pairs.{each_at, each_length}
use Rattle.buffer_pool.proofs.Sharing.{are_read, none_seen}
use Rattle.buffer_pool.proofs.shared.SharedPool.new.Goals as goal

pub returns-in-Ok-lock_all-clause-seat : goal.returns-in-Ok-lock_all-clause-seat
returns-in-Ok-lock_all-clause-seat g c = record {
  count = each_length IsFree _ _ c.in-Ok-lock_all.ensures.pairs;
  free = each_at IsFree _ _ c.in-Ok-lock_all.ensures.pairs;
}

pub returns-in-Ok-lock_all-clause-seen : goal.returns-in-Ok-lock_all-clause-seen
returns-in-Ok-lock_all-clause-seen g c = none_seen c.in-Ok-lock_all.field-0.passes.items c.in-Ok-lock_all.ensures.seen

pub returns-in-Err-clause-err : goal.returns-in-Err-clause-err
returns-in-Err-clause-err g c = are_read g.D.Drive _ _ c.in-Err.ensures.err
