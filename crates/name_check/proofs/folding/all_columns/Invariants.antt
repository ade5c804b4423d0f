use Rattle.std.proofs.Common.{◌≡◌, drop}
use Rattle.name_check.specs.FoldSteps.{fold_by, no_fold, with_columns}
use Rattle.name_check.proofs.folding.all_columns.Given as goal

-- what is left to add gives what the whole gives
abbrev pub invariant-loop-column : goal.invariant-loop-column
invariant-loop-column l = with_columns (fold_by l.folding) (drop l.column-index l.columns)
    ≡ with_columns no_fold l.columns
