use Rattle.std.proofs.Common.{All, take}
use Rattle.heap_page.specs.Blocks.{FitsAlone}
use Rattle.table_store.proofs.tests.all_fit.Given as goal

abbrev pub invariant-loop-number : goal.invariant-loop-number
invariant-loop-number l = All FitsAlone (take l.number l.items)
