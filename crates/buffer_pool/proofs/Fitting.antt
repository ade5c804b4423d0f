-- Shards that fit.
use Rattle.std.proofs.Common.{◌≡◌, ℕ, ◌≤◌, List, [], Option, Result, ap, sym, subst, ◌∙◌, arith}
use Rattle.std.specs.Prelude.{IfOk, OnErr}
use Rattle.std.specs.Arc.{arc_value}
use Rattle.std.specs.List.{Contains}
use Rattle.lru.proofs.Splits.{Contains-nil}
use Rattle.buffer_pool.specs.Lone.{IsEmpty}
use Rattle.std.specs.declared.sync.Arc.{Arc}
use Rattle.std.specs.declared.alloc.Global.{Global}
use Rattle.xp_outside.specs.declared.drive.Drive.{Ghosts}
use Rattle.heap_page.specs.declared.page.Page.{Page}
use Rattle.heap_page.specs.declared.errors.FetchErr.{FetchErr}
use Rattle.heap_page.specs.Stores.{IsRead}
use Rattle.lru.specs.LruCache.{LruCache}
use Rattle.buffer_pool.specs.Counts.{Covers}
use Rattle.buffer_pool.specs.Told.{IsTold, AreTold}
use Rattle.buffer_pool.specs.Used.{IsUsed}
use Rattle.buffer_pool.specs.Shards.{Fits}
use Rattle.buffer_pool.specs.declared.shard.Shard.{Shard}
use Rattle.buffer_pool.proofs.Cached.{stay_result}

-- reads after reads
pub reads : {D : Type 0} (g : Ghosts D) (a b c : D) → IsRead g a b → IsRead g b c → IsRead g a c
reads g a b c first second = record { size = second.size ∙ first.size; count = omega (arith, first.count, second.count); told = second.told ∙ first.told }

-- a shard that read a page fits still
pub fits_read : {D : Type 0} (g : Ghosts D) (named : D) (address : ℕ) (old : Shard D g) (cache : LruCache ℕ (Arc Page Global)) (new : Shard D g) (r : Result (Arc Page Global) FetchErr) →
    Fits named old → cache ≡ old.cache → IsRead g old.drive new.drive →
    (Covers (g.faults named) old.counter (g.faults old.drive) → Covers (g.faults named) new.counter (g.faults new.drive)) →
    IfOk r (λ found. IsTold (g.pages old.drive) address (arc_value found)) → IfOk r (λ found. IsUsed address (arc_value found) cache new.cache) → OnErr r (new.cache ≡ cache) → Fits named new
fits_read g named address old cache new r fits is read covers told used same = record {
  drive = reads g named old.drive new.drive fits.drive read;
  count = covers fits.count;
  cached = stay_result (g.pages named) address cache new.cache r (subst (λ (t : Option (List (List ℕ))). IfOk r (λ found. IsTold t address (arc_value found))) fits.drive.told told) used same
      (subst (λ (c : LruCache ℕ (Arc Page Global)). AreTold (g.pages named) c.entries) (sym is) fits.cached);
}

-- a shard that has read nothing fits its drive
pub fits_empty : {D : Type 0} (g : Ghosts D) (named : D) (shard : Shard D g) → shard.drive ≡ named → shard.counter ≡ 0 → shard.cache.entries ≡ [] → Fits named shard
fits_empty g named shard drive zero empty = record {
  drive = record { size = ap g.size drive; count = subst (λ d. g.faults named ≤ g.faults d) (sym drive) (omega arith); told = ap g.pages drive };
  count = let same : g.faults shard.drive ≡ g.faults named = ap g.faults drive in omega (arith, same, zero);
  cached = λ e at. absurd (Contains-nil e (subst (λ l. Contains l e) empty at));
}

pub fits_new : {D : Type 0} (g : Ghosts D) (named : D) (frames : ℕ) (shard : Shard D g) → shard.drive ≡ named → IsEmpty frames shard → Fits named shard
fits_new g named frames shard drive empty = fits_empty g named shard drive empty.0 (ap (λ (c : LruCache ℕ (Arc Page Global)). c.entries) empty.1)
