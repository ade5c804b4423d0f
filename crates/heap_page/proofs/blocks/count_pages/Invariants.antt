use Rattle.std.proofs.Common.{drop}
use Rattle.heap_page.specs.Blocks.{item_weight, blocks_of}
use Rattle.heap_page.proofs.Counted.{Counts}
use Rattle.heap_page.proofs.blocks.count_pages.Given as goal

abbrev pub invariant-loop-number : goal.invariant-loop-number
invariant-loop-number l = Counts (blocks_of item_weight 8172 l.items) l.pages l.used (drop l.number l.items)
