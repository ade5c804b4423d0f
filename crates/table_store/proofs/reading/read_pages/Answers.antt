use Rattle.std.proofs.lemmas.Result.{err_from_is_err_and}
use Rattle.heap_page.proofs.Drives.{quiet_trans, read_trans, room_read}
use Rattle.table_store.proofs.Pages.{cause_earlier, more, starts}
use Rattle.table_store.proofs.reading.read_pages.Goals as goal

pub loop-number-init : goal.loop-number-init
loop-number-init g c = rw c.over-rows.ensures (starts g.D.Drive c.args.map.now c.args.file c.args.columns.now c.args.drives.now)

pub read_page_rows-requires-clause-room : goal.read_page_rows-requires-clause-room
read_page_rows-requires-clause-room g c = room_read g.D.Drive c.args.map.now c.args.drives.now c.loop-number.drives c.loop-number.invariant.read c.requires.room

pub returns-in_err-read_page_rows-clause-read : goal.returns-in_err-read_page_rows-clause-read
returns-in_err-read_page_rows-clause-read g c =
    read_trans g.D.Drive c.args.drives.now c.loop-number.drives c.read_page_rows.new.drives c.loop-number.invariant.read c.read_page_rows.ensures.read

pub returns-in_err-read_page_rows-clause-err : goal.returns-in_err-read_page_rows-clause-err
returns-in_err-read_page_rows-clause-err g c =
    let p = err_from_is_err_and c.from_residual.result c.from_residual.ensures.1 in
    rw (p.1, p.2) (cause_earlier g.D.Drive c.args.map.now c.args.file c.args.columns.now c.args.drives.now c.loop-number.drives c.read_page_rows.new.drives _ c.loop-number.invariant.read c.in_err-read_page_rows.ensures.err)

pub loop-number-preserved : goal.loop-number-preserved
loop-number-preserved g c =
    more g.D.Drive c.args.map.now c.args.file c.args.columns.now c.args.drives.now c.loop-number.drives c.read_page_rows.new.drives c.loop-number.number c.loop-number.rows c.read_page_rows.new.rows
    c.loop-number.invariant c.in_ok-read_page_rows.ensures.ok c.read_page_rows.ensures.read c.in_ok-read_page_rows.ensures.quiet

pub returns-in_err-read_page_rows-clause-quiet : goal.returns-in_err-read_page_rows-clause-quiet
returns-in_err-read_page_rows-clause-quiet g c =
    let p = err_from_is_err_and c.from_residual.result c.from_residual.ensures.1 in
    rw (p.1, p.2) (quiet_trans g.D.Drive _ c.args.drives.now c.loop-number.drives c.read_page_rows.new.drives c.loop-number.invariant.read.len c.loop-number.invariant.quiet c.in_err-read_page_rows.ensures.quiet)
