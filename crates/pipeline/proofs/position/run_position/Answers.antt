use Rattle.std.proofs.Common.{◌≡◌}
use Rattle.plan_tree.specs.Fragments.{out, position_rows}
use Rattle.plan_tree.specs.Pieces.{ending_of, piece_of}
use Rattle.pipeline.proofs.Oks.{if_ok_more}
use Rattle.pipeline.proofs.Parts.{part_given}
use Rattle.pipeline.proofs.position.run_position.Goals as goal

pub returns-clause-output : goal.returns-clause-output
returns-clause-output g c = λ image stored values is reads are.
    let piece = piece_of c.args.fragment.now in
    if_ok_more c.run_source.result _ (λ rows. rows ≡ out stored values piece c.args.position)
    (λ found part. part_given piece.end (position_rows stored values piece c.args.position) found part)
    (c.run_source.ensures.rows image stored values is reads are)
