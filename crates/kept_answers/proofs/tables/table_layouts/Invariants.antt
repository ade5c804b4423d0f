use Rattle.std.proofs.Common.{◌≡◌, take}
use Rattle.kept_answers.specs.KeptAnswers.{database_columns}
use Rattle.kept_answers.proofs.tables.table_layouts.Given as goal

abbrev pub invariant-loop-table : goal.invariant-loop-table
invariant-loop-table l = l.layouts.items ≡ database_columns (take l.table-index l.tables)
