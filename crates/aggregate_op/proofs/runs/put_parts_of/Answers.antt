use Rattle.std.proofs.Common.{◌<◌, ◌≤◌, ◌∙◌, ◌++◌, ap, arith, length, map}
use Rattle.std.proofs.lemmas.Result.{on_ok_weaker}
use Rattle.aggregate_op.specs.Joined.{no_parts}
use Rattle.aggregate_op.specs.Runs.{parts_at, seen}
use Rattle.aggregate_op.proofs.GroupRuns.{parts_lost, parts_told}
use Rattle.aggregate_op.proofs.JoinedRows.{many}
use Rattle.aggregate_op.proofs.runs.put_parts_of.Goals as goal

pub returns-then-rows-clause-added : goal.returns-then-rows-clause-added
returns-then-rows-clause-added c =
    let small : length c.args.rows.now < many = omega arith in
    on_ok_weaker c.put_parts.result
    (λ e. e small
    ∙ ap (λ ops. c.args.parts.now.items ++ parts_at c.args.fold.now.groups ops (map seen c.args.rows.now)) c.items-ops.ensures
    ∙ ap (λ parts. c.args.parts.now.items ++ parts) (parts_told c.args.fold.now c.args.rows.now small))
    c.put_parts.ensures.added

pub returns-clause-added : goal.returns-clause-added
returns-clause-added c =
    let large : many ≤ length c.args.rows.now = omega arith in
    on_ok_weaker c.put_no_parts.result
    (λ e. e
    ∙ ap (λ ops. c.args.parts.now.items ++ no_parts ops) c.items-ops.ensures
    ∙ ap (λ parts. c.args.parts.now.items ++ parts) (parts_lost c.args.fold.now c.args.rows.now large))
    c.put_no_parts.ensures
