use Rattle.std.proofs.Common.{◌≡◌, ◌<◌, ◌≤◌, ℕ, max, Some, slice_get, vec_len}
use Rattle.buffer_pool.specs.Seats.{IsSeatOf, seen_at, seen_in}
use Rattle.buffer_pool.proofs.seat.PoolSeat.join.Given as goal

abbrev pub invariant-each : goal.invariant-each
invariant-each g l = record {
  seat : IsSeatOf l.pool l.self;
  left : (d : ℕ) (pass : _) → slice_get l.passes.items d ≡ Some pass → slice_get l.initial.passes.items d ≡ Some pass;
  below : (d : ℕ) → d < vec_len l.passes → seen_at l.self d ≡ seen_at l.initial.self d;
  above : (d : ℕ) → vec_len l.passes ≤ d → seen_at l.self d ≡ max (seen_at l.initial.self d) (seen_in l.initial.passes.items d);
}

abbrev pub decreases-each : goal.decreases-each
decreases-each g l = vec_len l.passes
