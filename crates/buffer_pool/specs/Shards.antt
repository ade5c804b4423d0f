-- What a shard has to do with the drive that it was made of.
use Rattle.std.specs.Prelude.{◌≡◌, ℕ, []}
use Rattle.lru.specs.LruCache.{lru_cache}
use Rattle.xp_outside.specs.declared.drive.Drive.{Ghosts}
use Rattle.heap_page.specs.Stores.{IsRead}
use Rattle.buffer_pool.specs.Counts.{Covers}
use Rattle.buffer_pool.specs.Told.{AreTold}
use Rattle.buffer_pool.specs.declared.shard.Shard.{Shard}

module _ {D : Type 0} {g : Ghosts D} where
  -- the shard's drive is as the named one after reads, of which at least as many failed as the shard counted, and each cached page is the named drive's
  pub record Fits (named : D) (shard : Shard D g) : Type 0 where
    pub drive : IsRead g named shard.drive
    pub count : Covers (g.faults named) shard.counter (g.faults shard.drive)
    pub cached : AreTold (g.pages named) shard.cache.entries

  -- nothing was read yet
  pub record IsNew (named : D) (frames : ℕ) (shard : Shard D g) : Type 0 where
    pub drive : shard.drive ≡ named
    pub counter : shard.counter ≡ 0
    pub cache : shard.cache ≡ lru_cache [] frames
