use Rattle.std.proofs.Common.{◌≡◌, ◌∷◌, map, rules}
use Rattle.std.proofs.lemmas.Result.{on_ok_weaker}
use Rattle.aggregate_op.specs.Runs.{seen}
use Rattle.aggregate_op.proofs.GroupRuns.{parts_next, stored_next, stored_nothing}
use Rattle.aggregate_op.proofs.runs.+put_parts.Goals as goal

pub returns-in_default-clause-stored : goal.returns-in_default-clause-stored
returns-in_default-clause-stored t c = stored_nothing c.args.column c.args.ops.now (map seen c.args.rows.now) c.in_default.ensures.cases

pub returns-clause-added : goal.returns-clause-added
returns-clause-added t c =
    let first : c.args.ops.now ≡ c.in-Some.op.now ∷ c.in-Some.ops.now = search rules in
    on_ok_weaker c.put_parts.result
    (λ e small. parts_next c.in-Some.op.now c.in-Some.ops.now c.args.ops.now c.args.column (map seen c.args.rows.now) c.args.parts.now.items c.put_part.new.parts.items c.put_parts.new.parts.items first (c.in_ok-put_part.ensures.added small) (e small))
    c.put_parts.ensures.added

pub returns-clause-stored : goal.returns-clause-stored
returns-clause-stored t c =
    let first : c.args.ops.now ≡ c.in-Some.op.now ∷ c.in-Some.ops.now = search rules in
    on_ok_weaker c.put_parts.result
    (λ all. stored_next c.in-Some.op.now c.in-Some.ops.now c.args.ops.now c.args.column (map seen c.args.rows.now) first c.in_ok-put_part.ensures.stored all)
    c.put_parts.ensures.stored
