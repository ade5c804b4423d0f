use Rattle.table_store.specs.Files.{table_blocks}
use Rattle.table_store.proofs.Cut.{are_pages}
use Rattle.table_store.proofs.files.heap_pages.Goals as goal

pub returns : goal.returns
returns c = c.pages_of.ensures (table_blocks c.args.table.now) (are_pages c.args.table.now.items c.requires.fit)
