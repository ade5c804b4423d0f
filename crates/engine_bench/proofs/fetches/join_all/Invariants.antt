use Rattle.std.specs.Prelude.{IfSome}
use Rattle.std.specs.List.{All}
use Rattle.std.specs.Vec.Iter.{into_iter_items}
use Rattle.buffer_pool.specs.Seats.{IsSeatOf}
use Rattle.engine_bench.proofs.fetches.join_all.Given as goal

abbrev pub invariant-loop-reader : goal.invariant-loop-reader
invariant-loop-reader l = record {
  left : All (λ reader. IfSome reader.seat (IsSeatOf l.pool)) (into_iter_items l.reader-iterator);
  seat : IsSeatOf l.pool l.seat;
}
