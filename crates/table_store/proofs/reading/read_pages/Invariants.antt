use Rattle.table_store.proofs.Pages.{Reading}
use Rattle.table_store.proofs.reading.read_pages.Given as goal

abbrev pub invariant-loop-number : goal.invariant-loop-number
invariant-loop-number g l = Reading g.D.Drive l.map l.file l.columns l.fn.drives l.number l.rows l.drives
