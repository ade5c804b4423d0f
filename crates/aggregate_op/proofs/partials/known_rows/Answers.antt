use Rattle.std.proofs.Common.{◌+◌, ◌++◌, ap, arith, ◌∙◌, length, map, drop}
use Rattle.aggregate_op.specs.Partials.{partial}
use Rattle.aggregate_op.specs.Runs.{seen}
use Rattle.aggregate_op.specs.Stored.{IsStoredRow}
use Rattle.aggregate_op.proofs.GroupRuns.{lead_upto, run_some, done_upto, done_up, done_known, done_all}
use Rattle.aggregate_op.proofs.partials.known_rows.Goals as goal

pub split_at-requires-in-loop-done : goal.split_at-requires-in-loop-done
split_at-requires-in-loop-done c = let k = lead_upto c.args.fold.now c.index-left-0.result c.split_at.result.1.now in omega (arith, k, c.leading.ensures)

pub loop-done-smaller : goal.loop-done-smaller
loop-done-smaller c =
    let k = run_some c.args.fold.now c.args.rows.now c.split_at.result.1.now c.split_at-in-loop-done.result.0.now c.loop-done.done c.leading.result (length c.split_at-in-loop-done.result.0.now) c.index-left-0.result
    c.split_at.ensures.back c.loop-done-test.true c.index-left-0.is c.leading.ensures c.split_at-in-loop-done.ensures.front c.split_at-in-loop-done.ensures.front_len in
    omega (arith, k)

pub loop-done-preserved : goal.loop-done-preserved
loop-done-preserved c = record {
  upto = done_upto c.args.fold.now c.args.rows.now c.split_at.result.1.now c.split_at-in-loop-done.result.0.now c.loop-done.done c.leading.result (length c.split_at-in-loop-done.result.0.now) c.index-left-0.result
      c.split_at.ensures.back c.loop-done-test.true c.index-left-0.is c.leading.ensures c.split_at-in-loop-done.ensures.front c.split_at-in-loop-done.ensures.front_len;
  ascend = done_up c.args.fold.now c.args.rows.now c.split_at.result.1.now c.split_at-in-loop-done.result.0.now c.loop-done.done c.leading.result (length c.split_at-in-loop-done.result.0.now) c.index-left-0.result
      c.split_at.ensures.back c.loop-done-test.true c.index-left-0.is c.leading.ensures c.split_at-in-loop-done.ensures.front c.split_at-in-loop-done.ensures.front_len c.loop-done.invariant.ascend;
  known = ap (λ found. found ++ partial c.args.fold.now (map seen (drop (c.loop-done.done + length c.split_at-in-loop-done.result.0.now) c.args.rows.now))) c.in_ok-push.ensures.items
      ∙ done_known c.args.fold.now c.args.rows.now c.split_at.result.1.now c.split_at-in-loop-done.result.0.now c.loop-done.done c.leading.result (length c.split_at-in-loop-done.result.0.now) c.index-left-0.result
      c.split_at.ensures.back c.loop-done-test.true c.index-left-0.is c.leading.ensures c.split_at-in-loop-done.ensures.front c.split_at-in-loop-done.ensures.front_len
      c.loop-done.found.items c.in_ok-known_of.field-0 c.loop-done.invariant.ascend c.loop-done.invariant.known c.in_ok-known_of.ensures.known;
  stored = done_all c.args.fold.now c.args.rows.now c.split_at.result.1.now c.split_at-in-loop-done.result.0.now c.loop-done.done c.leading.result (length c.split_at-in-loop-done.result.0.now) c.index-left-0.result
      c.split_at.ensures.back c.loop-done-test.true c.index-left-0.is c.leading.ensures c.split_at-in-loop-done.ensures.front c.split_at-in-loop-done.ensures.front_len
      (IsStoredRow c.args.fold.now) c.in_ok-known_of.ensures.stored c.loop-done.invariant.stored;
}
