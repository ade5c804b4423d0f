use Rattle.std.proofs.Common.{◌≡◌}
use Rattle.hash_join.specs.Table.{rows_of}
use Rattle.plan_tree.specs.EndValues.{IsEndValue, kept_by}
use Rattle.plan_tree.specs.Fragments.{ended}
use Rattle.plan_tree.specs.Pieces.{ending_of}
use Rattle.pipeline.proofs.Oks.{if_ok_more}
use Rattle.pipeline.proofs.Parts.{kept_value_is}
use Rattle.pipeline.proofs.end.end_value.Goals as goal

pub returns-clause-value : goal.returns-clause-value
returns-clause-value c =
    let end = ending_of c.args.fragment.now.end in
    let layout = c.args.fragment.now.layout in
    if_ok_more c.ended_parts.result _ (IsEndValue end layout c.args.parts)
    (λ table is. kept_value_is end layout c.requires.0 c.args.parts table c.requires.1 (is c.requires.0 c.requires.1)) c.ended_parts.ensures

pub returns-clause-rows : goal.returns-clause-rows
returns-clause-rows c = λ lists all.
    let end = ending_of c.args.fragment.now.end in
    if_ok_more c.ended_parts.result _ (λ table. table ≡ kept_by end c.args.fragment.now.layout c.args.parts (ended end (rows_of lists)))
    (λ table is. is lists all) c.ended_parts.ensures
