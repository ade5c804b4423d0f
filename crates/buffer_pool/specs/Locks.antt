-- Shards that lie under locks.
use Rattle.std.specs.Prelude.{◌≡◌, ℕ, List, [], ◌∷◌, length, map}
use Rattle.std.specs.List.{All}
use Rattle.run_lock.specs.declared.lock.RunLock.{RunLock}
use Rattle.run_lock.specs.declared.lock.Pass.{Pass}
use Rattle.run_lock.specs.Passes.{lock_name, seen_of}
use Rattle.xp_outside.specs.declared.drive.Drive.{Ghosts}
use Rattle.heap_page.specs.declared.map.FileMap.{FileMap}
use Rattle.heap_page.specs.Maps.{IsMap}
use Rattle.heap_page.specs.Stores.{HaveRoom}
use Rattle.buffer_pool.specs.Counts.{Covers}
use Rattle.buffer_pool.specs.declared.named.ShardName.{ShardName}
use Rattle.buffer_pool.specs.declared.shard.Shard.{Shard}

-- two lists are of one length, and the relation holds place by place
abbrev pub Each : {X Y : Type 0} → (X → Y → Type 0) → List X → List Y → Type 0
Each P [] [] = Unit {0}
Each P [] (y ∷ ys) = ⊥
Each P (x ∷ xs) [] = ⊥
Each P (x ∷ xs) (y ∷ ys) = P x y × Each P xs ys

module _ {F D E : Type 0} where
  -- the drive as it was when the lock was made
  abbrev pub lock_drive : RunLock F (ShardName D) E → D
  lock_drive lock = (lock_name lock).drive.value

  abbrev pub lock_drives : List (RunLock F (ShardName D) E) → List D
  lock_drives locks = map lock_drive locks

  -- how many pages the lock's shard can keep
  abbrev pub lock_frames : RunLock F (ShardName D) E → ℕ
  lock_frames lock = (lock_name lock).frames

  -- that of each lock can keep so many
  abbrev pub KeepFrames : ℕ → List (RunLock F (ShardName D) E) → Type 0
  KeepFrames frames locks = All (λ (lock : RunLock F (ShardName D) E). lock_frames lock ≡ frames) locks

  -- the drive of each lock, and how many numbers of its log the pass has seen
  abbrev pub drives_seen : List (RunLock F (ShardName D) E) → List (Pass F (ShardName D) E) → List (D × ℕ)
  drives_seen [] passes = []
  drives_seen (lock ∷ locks) [] = []
  drives_seen (lock ∷ locks) (pass ∷ passes) = (lock_drive lock, seen_of pass) ∷ drives_seen locks passes

module _ {D : Type 0} (g : Ghosts D) where
  -- since then the drive has failed at least as often as was seen
  abbrev pub CoversSeen : D × ℕ → D → Type 0
  CoversSeen named drive = Covers (g.faults named.0) named.1 (g.faults drive)

module _ {D : Type 0} {g : Ghosts D} where
  -- a lock for each drive, on which there is room for the pages of the files
  pub record AreLocks (files : FileMap) (locks : List (RunLock (Shard D g) (ShardName D) ℕ)) : Type 0 where
    pub map : IsMap files
    pub len : length locks ≡ files.drives
    pub room : HaveRoom g files (lock_drives locks)
