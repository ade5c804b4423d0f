use Rattle.std.proofs.Common.{◌≡◌, map, take}
use Rattle.rel_meaning.specs.Meaning.{layout_column}
use Rattle.rel_meaning.proofs.answer.table_layouts.Given as goal

abbrev pub invariant-loop-table : goal.invariant-loop-table
invariant-loop-table l = l.layouts.items ≡ map (λ t. map layout_column t.columns) (take l.table-index l.tables)
