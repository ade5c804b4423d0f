use Rattle.std.proofs.Common.{rules, subst}
use Rattle.std.specs.Prelude.{IfSome}
use Rattle.std.specs.List.{All}
use Rattle.std.proofs.lemmas.List.Elements.{All-tail}
use Rattle.buffer_pool.specs.Seats.{IsSeatOf}
use Rattle.engine_bench.proofs.fetches.join_all.Goals as goal

pub loop-reader-preserved-in-Some-seat : goal.loop-reader-preserved-in-Some-seat
loop-reader-preserved-in-Some-seat c = record {
  left = All-tail (λ reader. IfSome reader.seat (IsSeatOf c.args.pool.now)) _ _ (subst (λ team. All (λ reader. IfSome reader.seat (IsSeatOf c.args.pool.now)) team) c.in-Some.ensures.steps.0 c.loop-reader.invariant.left);
  seat = search rules;
}

pub loop-reader-preserved : goal.loop-reader-preserved
loop-reader-preserved c = record {
  left = All-tail (λ reader. IfSome reader.seat (IsSeatOf c.args.pool.now)) _ _ (subst (λ team. All (λ reader. IfSome reader.seat (IsSeatOf c.args.pool.now)) team) c.in-Some.ensures.steps.0 c.loop-reader.invariant.left);
  seat = search rules;
}
