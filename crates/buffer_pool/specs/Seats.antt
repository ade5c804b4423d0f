-- A pool that threads share, and the seats at it.
use Rattle.std.specs.Prelude.{◌≡◌, ℕ, List, length, slice_get, Some}
use Rattle.std.specs.Option.{option_map_or}
use Rattle.run_lock.specs.declared.lock.RunLock.{RunLock}
use Rattle.run_lock.specs.declared.lock.Pass.{Pass}
use Rattle.run_lock.specs.Passes.{IsFree, seen_of}
use Rattle.xp_outside.specs.declared.drive.Drive.{Ghosts}
use Rattle.heap_page.specs.declared.map.FileMap.{FileMap}
use Rattle.buffer_pool.specs.Counts.{count_of}
use Rattle.buffer_pool.specs.Locks.{KeepFrames, lock_drives}
use Rattle.buffer_pool.specs.declared.named.ShardName.{ShardName}
use Rattle.buffer_pool.specs.declared.shard.Shard.{Shard}
use Rattle.buffer_pool.specs.declared.shared.SharedPool.{SharedPool}
use Rattle.buffer_pool.specs.declared.seat.PoolSeat.{PoolSeat}

module _ {D : Type 0} {g : Ghosts D} where
  -- the files of the pool, and the drives as they were when it was made
  abbrev pub pool_map : SharedPool D g → FileMap
  pool_map pool = pool.map

  abbrev pub pool_drives : SharedPool D g → List D
  pool_drives pool = lock_drives pool.locks.items

  -- the shard of each drive can keep so many pages
  abbrev pub KeepsFrames : ℕ → SharedPool D g → Type 0
  KeepsFrames frames pool = KeepFrames frames pool.locks.items

  -- it has a free pass for each of the pool's locks
  pub record IsSeatOf (pool : SharedPool D g) (seat : PoolSeat D g) : Type 0 where
    pub count : length seat.passes.items ≡ length pool.locks.items
    pub free : (d : ℕ) (lock : RunLock (Shard D g) (ShardName D) ℕ) (pass : Pass (Shard D g) (ShardName D) ℕ) → slice_get pool.locks.items d ≡ Some lock → slice_get seat.passes.items d ≡ Some pass → IsFree lock pass

  -- how many failed reads of the drive of this number the passes have seen
  abbrev pub seen_in : List (Pass (Shard D g) (ShardName D) ℕ) → ℕ → ℕ
  seen_in passes d = option_map_or seen_of (slice_get passes d) 0

  abbrev pub seen_at : PoolSeat D g → ℕ → ℕ
  seen_at seat d = seen_in seat.passes.items d

  -- the count of faults of the drive, as far as the seat has seen it
  abbrev pub counts_at : PoolSeat D g → ℕ → ℕ
  counts_at seat d = count_of (seen_at seat d)
