use Rattle.table_store.proofs.Laying.{laid_out, layout_err}
use Rattle.table_store.proofs.database.lay_database.Goals as goal

pub returns-clause-laid : goal.returns-clause-laid
returns-clause-laid g c =
    laid_out g.D.Drive c.args.catalog.now c.args.db.now c.as_slice.result.now c.args.drives.now c.lay.new.drives c.lay.result c.requires.stored (rw c.as_slice.ensures.value c.in_ok-tables.ensures.stored)
    (rw c.as_slice.ensures.value c.in_ok-tables.ensures.storable) c.lay.ensures.laid c.lay.ensures.room c.lay.ensures.image c.lay.ensures.tell

pub returns-clause-err : goal.returns-clause-err
returns-clause-err g c =
    layout_err g.D.Drive c.args.catalog.now c.args.db.now c.as_slice.result.now c.args.drives.now c.lay.new.drives c.lay.result (rw c.as_slice.ensures.value c.in_ok-tables.ensures.stored) c.lay.ensures.err
