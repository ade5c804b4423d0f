use Rattle.plan_tree.specs.Pieces.{ending_of, piece_of}
use Rattle.pipeline.specs.Ends.{led_to_end}
use Rattle.pipeline.proofs.Formed.{part_moved}
use Rattle.pipeline.proofs.position.run_index.Goals as goal

pub returns-clause-told : goal.returns-clause-told
returns-clause-told g c = λ image entries e values is holds here from.
    part_moved (ending_of c.args.fragment.now.end) _ _ c.in_ok-finish_rows.field-0 (λ i. led_to_end values (piece_of c.args.fragment.now) (c.in_ok-layout.ensures i) (c.in_ok-rows.ensures.told image entries e is holds here i)) (c.in_ok-finish_rows.ensures.output values from)
