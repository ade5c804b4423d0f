use Rattle.std.proofs.Common.{◌≡◌, List, ap, map}
use Rattle.rows.specs.declared.value.Value.{Value}
use Rattle.rel_meaning.specs.Expression.{output_of}
use Rattle.hash_join.specs.Table.{rows_of}
use Rattle.plan_tree.specs.EndValues.{kept_by}
use Rattle.plan_tree.specs.Fragments.{ended}
use Rattle.plan_tree.specs.Pieces.{ending_of}
use Rattle.pipeline.specs.Ends.{ArePartsOf}
use Rattle.pipeline.proofs.Oks.{if_ok_more}
use Rattle.pipeline.proofs.Parts.{kept_of_folded, kept_of_sorted}
use Rattle.pipeline.proofs.end.ended_parts.Goals as goal

pub returns-in-Fold : goal.returns-in-Fold
returns-in-Fold c =
    let end = ending_of c.args.end.now in
    let layout = c.args.layout.now in
    let parts = c.args.parts in
    if_ok_more c.folded_parts.result _ (λ table. (lists : List (List (List Value))) → ArePartsOf end lists parts → table ≡ kept_by end layout parts (ended end (rows_of lists)))
    (λ table made. kept_of_folded end (map output_of c.in-Fold.targets) c.in-Fold.fold layout parts table (ap ending_of c.in-Fold.is) made) c.folded_parts.ensures

pub returns-in-Sort : goal.returns-in-Sort
returns-in-Sort c =
    let end = ending_of c.args.end.now in
    let layout = c.args.layout.now in
    let parts = c.args.parts in
    if_ok_more c.arrange-in-Sort.result _ (λ table. (lists : List (List (List Value))) → ArePartsOf end lists parts → table ≡ kept_by end layout parts (ended end (rows_of lists)))
    (λ table made. kept_of_sorted end c.in-Sort.keys layout parts table (ap ending_of c.in-Sort.is) made) c.arrange-in-Sort.ensures
