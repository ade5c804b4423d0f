use Rattle.std.specs.Prelude.{IfSome}
use Rattle.std.specs.List.{All}
use Rattle.buffer_pool.specs.Seats.{IsSeatOf}
use Rattle.engine_bench.proofs.fetches.readers.Given as goal

abbrev pub invariant-loop-number : goal.invariant-loop-number
invariant-loop-number l = record {
  seat : IsSeatOf l.pool l.seat;
  team : All (λ reader. IfSome reader.seat (IsSeatOf l.pool)) l.team.items;
}
