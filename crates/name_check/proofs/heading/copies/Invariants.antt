use Rattle.std.proofs.Common.{◌≡◌, take}
use Rattle.name_check.proofs.heading.copies.Given as goal

abbrev pub invariant-loop-column : goal.invariant-loop-column
invariant-loop-column l = l.list.items ≡ take l.column-index l.columns
