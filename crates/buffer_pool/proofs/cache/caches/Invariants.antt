use Rattle.std.proofs.Common.{◌≡◌, vec_len}
use Rattle.std.specs.List.{All}
use Rattle.buffer_pool.specs.Lone.{IsEmptyCache}
use Rattle.buffer_pool.proofs.cache.caches.Given as goal

abbrev pub invariant-loop-number : goal.invariant-loop-number
invariant-loop-number l = (vec_len l.made ≡ l._number) × All (IsEmptyCache l.frames) l.made.items
