use Rattle.std.proofs.Common.{◌≡◌, ◌≤◌, ◌+◌, ◌++◌, [], vec_len, vec_capacity}
use Rattle.std.specs.List.{All}
use Rattle.run_lock.specs.Passes.{IsFree, seen_of}
use Rattle.buffer_pool.specs.Locks.{Each, KeepFrames, lock_drives}
use Rattle.buffer_pool.specs.Lone.{IsEmptyCache}
use Rattle.buffer_pool.proofs.opening.lock_all.Given as goal

abbrev pub invariant-each : goal.invariant-each
invariant-each g l = record {
  same : lock_drives l.opening.locks.items ++ l.drives.items ≡ l.initial.drives.items;
  pairs : Each IsFree l.opening.locks.items l.opening.passes.items;
  seen : All (λ pass. seen_of pass ≡ 0) l.opening.passes.items;
  frames : KeepFrames l.frames l.opening.locks.items;
  new : All (IsEmptyCache l.frames) l.caches.items;
  caches : vec_len l.caches ≡ vec_len l.drives;
  locks : vec_len l.opening.locks + vec_len l.drives ≤ vec_capacity l.opening.locks;
  passes : vec_len l.opening.passes + vec_len l.drives ≤ vec_capacity l.opening.passes;
  room : vec_len l.opening.locks + vec_len l.drives ≤ vec_capacity l.opening.room;
  empty : l.opening.room.items ≡ [];
}

abbrev pub decreases-each : goal.decreases-each
decreases-each g l = vec_len l.drives
