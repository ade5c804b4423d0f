use Rattle.std.proofs.Common.{◌<◌, length, arith}
use Rattle.std.proofs.lemmas.Result.{IfOk-weaker}
use Rattle.aggregate_op.proofs.Halves.{few_lists, merged_halves}
use Rattle.aggregate_op.proofs.partials.+merge_parts.Goals as goal

pub returns-then-len-lt2 : goal.returns-then-len-lt2
returns-then-len-lt2 t c =
    let few : length c.args.parts.items < 2 = omega arith in
    IfOk-weaker c.only_part.result _ _ (λ found e. few_lists c.args.fold.now (λ part. part.value) c.args.parts.items found.items few e) c.only_part.ensures

pub returns : goal.returns
returns t c =
    merged_halves c.args.fold.now _ (λ part. part.value) c.args.parts.items _ _ c.in_ok-left.left.items c.in_ok-right.right.items _
    c.in_ok-second.ensures.items c.in_ok-second.ensures.tail c.in_ok-left.ensures c.in_ok-right.ensures c.in_ok-merge_rows.ensures
