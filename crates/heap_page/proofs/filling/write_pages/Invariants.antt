use Rattle.std.proofs.Common.{drop}
use Rattle.heap_page.specs.Blocks.{item_weight, blocks_of}
use Rattle.heap_page.proofs.Fillings.{Filling}
use Rattle.heap_page.proofs.filling.write_pages.Given as goal

abbrev pub invariant-loop-place : goal.invariant-loop-place
invariant-loop-place g l =
    Filling g.D.Drive l.map l.file (blocks_of item_weight 8172 l.items) l.fn.drives l.number l.page (drop l.place l.items) l.drives
