use Rattle.std.proofs.Common.{◌≡◌, ◌≤◌, ◌+◌, ◌++◌, ℕ, vec_len, vec_capacity}
use Rattle.std.specs.List.{All}
use Rattle.buffer_pool.specs.Lone.{IsEmpty, IsEmptyCache, drives_in}
use Rattle.buffer_pool.proofs.lone.fill.Given as goal

abbrev pub invariant-each : goal.invariant-each
invariant-each g l = record {
  same : drives_in l.shards.items ++ l.drives.items ≡ l.initial.drives.items;
  empty : (frames : ℕ) → All (IsEmptyCache frames) l.initial.caches.items → All (IsEmpty frames) l.shards.items × All (IsEmptyCache frames) l.caches.items;
  caches : vec_len l.caches ≡ vec_len l.drives;
  room : vec_len l.shards + vec_len l.drives ≤ vec_capacity l.shards;
}

abbrev pub decreases-each : goal.decreases-each
decreases-each g l = vec_len l.drives
