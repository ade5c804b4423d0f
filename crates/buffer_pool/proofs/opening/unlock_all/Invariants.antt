use Rattle.std.proofs.Common.{◌≡◌, ◌≤◌, ◌+◌, ◌++◌, vec_len, vec_capacity, List}
use Rattle.run_lock.specs.Passes.{IsFree}
use Rattle.heap_page.specs.Stores.{IsRead}
use Rattle.buffer_pool.specs.Locks.{CoversSeen, Each, drives_seen, lock_drives}
use Rattle.buffer_pool.proofs.opening.unlock_all.Given as goal

abbrev pub invariant-each : goal.invariant-each
invariant-each g l = record {
  pairs : Each IsFree l.locks.items l.passes.items;
  room : vec_len l.room + vec_len l.locks ≤ vec_capacity l.room;
  capacity : vec_capacity l.room ≡ vec_capacity l.initial.room;
  len : vec_len l.room + vec_len l.locks ≡ vec_len l.initial.locks;
  came : (done : List _) × (lock_drives l.initial.locks.items ≡ done ++ lock_drives l.locks.items) × Each (IsRead g.D.Drive) done l.room.items;
  seen : (done : List _) × (drives_seen l.initial.locks.items l.initial.passes.items ≡ done ++ drives_seen l.locks.items l.passes.items) × Each (CoversSeen g.D.Drive) done l.room.items;
}

abbrev pub decreases-each : goal.decreases-each
decreases-each g l = vec_len l.locks
