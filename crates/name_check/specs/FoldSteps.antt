-- A fold, column by column.
use Rattle.std.specs.Prelude.{◌+◌, List, [], ◌∷◌, ◌++◌, length, Option, Some, None}
use Rattle.aggregate_op.specs.declared.fold.FoldOp.{FoldOp}
use Rattle.aggregate_op.specs.declared.fold.FoldPlace.TheVariants.{Group, Op}
use Rattle.aggregate_op.specs.declared.fold.Fold.{Fold}
use Rattle.name_check.specs.declared.folding.Folding.{Folding}

abbrev pub fold_by : Folding → Fold
fold_by f = record { groups = f.groups; ops = f.ops.items; places = f.places.items }

abbrev pub no_fold : Fold
no_fold = record { groups = 0; ops = []; places = [] }

abbrev pub with_column : Fold → Option FoldOp → Fold
with_column f None =
    record { groups = f.groups + 1; ops = f.ops; places = f.places ++ Group f.groups ∷ [] }
with_column f (Some op) =
    record {
      groups = f.groups;
      ops = f.ops ++ op ∷ [];
      places =
          f.places ++ Op (length f.ops) ∷ [];
    }

abbrev pub with_columns : Fold → List (Option FoldOp) → Fold
with_columns f [] = f
with_columns f (c ∷ cs) = with_columns (with_column f c) cs
