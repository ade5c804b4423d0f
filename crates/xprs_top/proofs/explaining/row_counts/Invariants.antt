use Rattle.std.proofs.Common.{◌≡◌, length, map, take}
use Rattle.xprs_top.proofs.explaining.row_counts.Given as goal

abbrev pub invariant-loop-table : goal.invariant-loop-table
invariant-loop-table l = l.counts.items ≡ map (λ t. length t.rows) (take l.table-index l.table-items)
