use Rattle.std.proofs.Common.{◌≡◌, ◌≤◌, List, length, map}
use Rattle.std.specs.List.{All}
use Rattle.fragments.specs.Folds.{folded}
use Rattle.plan_tree.specs.declared.fragment.Fragment.{Fragment}
use Rattle.plan_tree.specs.Pieces.{pieces_of}
use Rattle.plan_tree.specs.WellFormed.{IsTimedFragment}
use Rattle.xprs_top.proofs.Fragmented.{still_few, still_timed}
use Rattle.xprs_top.proofs.Joined.{if_ok_map}
use Rattle.xprs_top.proofs.explaining.script_fragments.Goals as goal

pub returns-clause-pieces : goal.returns-clause-pieces
returns-clause-pieces c = rw (← c.in_ok-indexes.ensures, ← c.in_ok-fragments.ensures.cut) c.with_folds.ensures.ends

pub returns-clause-few : goal.returns-clause-few
returns-clause-few c =
    let folds = c.args.checked.now.read.folds in
    let pieces = pieces_of c.in_ok-fragments.fragments in
    if_ok_map c.with_folds.result (λ (more : List Fragment). pieces_of more ≡ map (folded folds) pieces) (λ (more : List Fragment). length more ≤ 1000)
    (λ more e. still_few folds pieces more c.in_ok-fragments.ensures.formed e) c.with_folds.ensures.ends

pub returns-clause-timed : goal.returns-clause-timed
returns-clause-timed c =
    let folds = c.args.checked.now.read.folds in
    let pieces = pieces_of c.in_ok-fragments.fragments in
    if_ok_map c.with_folds.result (λ (more : List Fragment). pieces_of more ≡ map (folded folds) pieces) (All IsTimedFragment)
    (λ more e. still_timed folds pieces more c.in_ok-fragments.ensures.formed e) c.with_folds.ensures.ends
