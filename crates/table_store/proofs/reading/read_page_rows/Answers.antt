use Rattle.std.proofs.Common.{arith}
use Rattle.heap_page.specs.Maps.{drive_of}
use Rattle.heap_page.proofs.Drives.{quiet_none, quiet_trans}
use Rattle.heap_page.proofs.Striping.{address_below}
use Rattle.table_store.proofs.Pages.{bad_cause}
use Rattle.table_store.proofs.reading.read_page_rows.Goals as goal

pub read_relation_page-requires-clause-room : goal.read_relation_page-requires-clause-room
read_relation_page-requires-clause-room g c = λ drive at.
    let room = c.requires.room (drive_of c.args.map.now c.args.number) drive at in
    omega (arith, room, address_below c.args.map.now c.args.file c.args.number c.requires.map c.requires.page)

pub returns-clause-err : goal.returns-clause-err
returns-clause-err g c =
    bad_cause g.D.Drive c.args.map.now c.args.file c.args.columns.now _ c.args.drives.now c.read_relation_page.new.drives c.args.number c.in_ok-page.page c.requires.page c.in_ok-page.ensures.told
    c.add_page.result c.add_page.ensures

pub returns-clause-quiet : goal.returns-clause-quiet
returns-clause-quiet g c =
    quiet_trans g.D.Drive _ c.args.drives.now c.read_relation_page.new.drives c.read_relation_page.new.drives c.read_relation_page.ensures.read.len c.in_ok-page.ensures.quiet (quiet_none g.D.Drive _ c.read_relation_page.new.drives)
