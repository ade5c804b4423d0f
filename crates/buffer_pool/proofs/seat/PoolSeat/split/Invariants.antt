use Rattle.std.proofs.Common.{◌≡◌, ℕ, Some, slice_get, vec_len}
use Rattle.run_lock.specs.Passes.{IsFree, seen_of}
use Rattle.buffer_pool.specs.Seats.{IsSeatOf, seen_at}
use Rattle.buffer_pool.proofs.seat.PoolSeat.split.Given as goal

abbrev pub invariant-loop-place : goal.invariant-loop-place
invariant-loop-place g l = record {
  seat : IsSeatOf l.pool l.self;
  seen : (d : ℕ) → seen_at l.self d ≡ seen_at l.initial.self d;
  len : vec_len l.passes ≡ l.place;
  free : (d : ℕ) (lock : _) (pass : _) → slice_get l.pool.locks.items d ≡ Some lock → slice_get l.passes.items d ≡ Some pass → IsFree lock pass;
  same : (d : ℕ) (pass : _) → slice_get l.passes.items d ≡ Some pass → seen_of pass ≡ seen_at l.initial.self d;
}
