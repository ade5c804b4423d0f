use Rattle.std.proofs.Common.{◌≡◌, ◌++◌, drop}
use Rattle.kept_relations.specs.KeptColumns.{kept_columns}
use Rattle.kept_relations.proofs.kept.kept_layout.Given as goal

-- the columns so far and those that are left
abbrev pub invariant-loop-place : goal.invariant-loop-place
invariant-loop-place l = l.columns.items ++ kept_columns (drop l.place l.kept.columns) (drop l.place l.kept.bounds) ≡ kept_columns l.kept.columns l.kept.bounds
