-- A pool that one caller has.
use Rattle.std.specs.Prelude.{◌≡◌, ◌≢◌, ℕ, ◌/◌, max, List, [], length, map, nat_eq, slice_get, Some, IfOk, IfSome, OnErr, Result}
use Rattle.std.specs.List.{All}
use Rattle.std.specs.Option.{option_map_or}
use Rattle.std.specs.Arc.{arc_value}
use Rattle.std.specs.Map.{lookup}
use Rattle.lru.specs.LruCache.{LruCache, lru_cache}
use Rattle.std.specs.declared.sync.Arc.{Arc}
use Rattle.std.specs.declared.alloc.Global.{Global}
use Rattle.heap_page.specs.declared.errors.FetchErr.{FetchErr}
use Rattle.heap_page.specs.declared.page.Page.{Page}
use Rattle.xp_outside.specs.declared.drive.Drive.{Ghosts}
use Rattle.heap_page.specs.declared.map.FileMap.{FileMap}
use Rattle.heap_page.specs.Maps.{IsMap}
use Rattle.heap_page.specs.Stores.{HaveRoom, IsRead}
use Rattle.buffer_pool.specs.Shards.{Fits}
use Rattle.buffer_pool.specs.Used.{IsAnswer, IsUsed}
use Rattle.buffer_pool.specs.declared.place.Place.{Place}
use Rattle.buffer_pool.specs.declared.mounted.Mounted.{Mounted}
use Rattle.buffer_pool.specs.declared.shard.Shard.{Shard}

-- how many pages each drive's shard keeps
abbrev pub frames_of : ℕ → ℕ → ℕ
frames_of frames drives = max (frames / drives) 1

-- a cache of no pages, which can keep so many
abbrev pub IsEmptyCache : ℕ → LruCache ℕ (Arc Page Global) → Type 0
IsEmptyCache frames cache = cache ≡ lru_cache [] frames

module _ {D : Type 0} where
  -- the files of the pool, and the drives as they were when it was made
  abbrev pub map_of : Mounted D → FileMap
  map_of mounted = mounted.map

  abbrev pub drives_of : Mounted D → List D
  drives_of mounted = mounted.drives.value.items

module _ {D : Type 0} {g : Ghosts D} where
  -- how often the drive of this number has failed
  abbrev pub count_at : List (Shard D g) → ℕ → ℕ
  count_at shards d = option_map_or (λ (s : Shard D g). g.faults s.drive) (slice_get shards d) 0

  abbrev pub drives_in : List (Shard D g) → List D
  drives_in shards = map (λ (s : Shard D g). s.drive) shards

  -- nothing was read yet, and so many pages can be kept
  abbrev pub IsEmpty : ℕ → Shard D g → Type 0
  IsEmpty frames shard = (shard.counter ≡ 0) × IsEmptyCache frames shard.cache

  -- one shard for each drive, and nothing read yet
  pub record AreNew (drives : List D) (frames : ℕ) (shards : List (Shard D g)) : Type 0 where
    pub same : drives_in shards ≡ drives
    pub empty : All (IsEmpty frames) shards

  -- a shard after a fetch, or as it was
  pub record IsOn (old new : Shard D g) : Type 0 where
    pub drive : IsRead g old.drive new.drive
    pub fits : (named : D) → Fits named old → Fits named new

  -- What a fetch at a place answers and keeps. A cached page is the answer, and no drive is called. After an Ok the page is the one used
  -- last, and after an error the same pages are cached.
  pub record IsTurn (place : Place) (file page : ℕ) (old new : Shard D g) (result : Result (Arc Page Global) FetchErr) : Type 0 where
    pub hit : IfSome (lookup (nat_eq place.address) old.cache.entries) (λ cached. (new.drive ≡ old.drive) × IsAnswer place.kind file page (arc_value cached) result)
    pub used : IfOk result (λ found. IsUsed place.address (arc_value found) old.cache new.cache)
    pub kept : OnErr result (new.cache ≡ old.cache)

  -- that of the place's drive
  abbrev pub IsTurnAt : Place → ℕ → ℕ → List (Shard D g) → List (Shard D g) → Result (Arc Page Global) FetchErr → Type 0
  IsTurnAt place file page old new result = (was is : Shard D g) → slice_get old place.drive ≡ Some was → slice_get new place.drive ≡ Some is → IsTurn place file page was is result

  -- one shard was called, and the others stay
  pub record AreOn (d : ℕ) (old new : List (Shard D g)) : Type 0 where
    pub len : length new ≡ length old
    pub called : (was is : Shard D g) → slice_get old d ≡ Some was → slice_get new d ≡ Some is → IsOn was is
    pub others : (e : ℕ) → e ≢ d → slice_get new e ≡ slice_get old e

  -- each shard fits its drive, on which there is room for the pages of the files
  pub record AreShards (mounted : Mounted D) (shards : List (Shard D g)) : Type 0 where
    pub map : IsMap (map_of mounted)
    pub drives : length (drives_of mounted) ≡ (map_of mounted).drives
    pub len : length shards ≡ (map_of mounted).drives
    pub room : HaveRoom g (map_of mounted) (drives_of mounted)
    pub fits : (d : ℕ) (named : D) (shard : Shard D g) → slice_get (drives_of mounted) d ≡ Some named → slice_get shards d ≡ Some shard → Fits named shard
