use Rattle.std.proofs.Common.{◌+◌, arith}
use Rattle.std.proofs.lemmas.Result.{err_from_is_err_and}
use Rattle.heap_page.proofs.Drives.{quiet_trans, room_kept}
use Rattle.heap_page.proofs.Found.{some_at}
use Rattle.table_store.specs.Files.{IsStorable}
use Rattle.table_store.specs.Images.{IsTablePlace}
use Rattle.table_store.proofs.Again.{tell_rows}
use Rattle.table_store.proofs.Filed.{all_at, index_pages_there, pages_there, next_number, number_small}
use Rattle.table_store.proofs.Stored.{cause_before, wrote_more, stored, hold_at_end, room_at_end}
use Rattle.table_store.proofs.writing.write_tables.Goals as goal

pub write_table-requires-clause-table : goal.write_table-requires-clause-table
write_table-requires-clause-table g c =
    let at = some_at c.args.tables.now c.loop-table.table-index c.table-item.result c.loop-table-test.true c.table-item.is in
    all_at IsStorable c.args.tables.now c.loop-table.table-index c.table-item.result c.requires.tables at

pub write_table-requires-clause-small : goal.write_table-requires-clause-small
write_table-requires-clause-small g c = omega (arith, c.loop-table.invariant.file_is, number_small c.args.tables.now c.loop-table.table-index, c.requires.few)

pub write_table-requires-clause-heap : goal.write_table-requires-clause-heap
write_table-requires-clause-heap g c = λ blocks cut.
    let at = some_at c.args.tables.now c.loop-table.table-index c.table-item.result c.loop-table-test.true c.table-item.is in
    pages_there c.args.tables.now c.args.map.now.files.items c.loop-table.table-index c.loop-table.file c.table-item.result blocks c.requires.files c.loop-table.invariant.file_is c.requires.tables at cut

pub write_table-requires-clause-index : goal.write_table-requires-clause-index
write_table-requires-clause-index g c = λ index has.
    let at = some_at c.args.tables.now c.loop-table.table-index c.table-item.result c.loop-table-test.true c.table-item.is in
    index_pages_there c.args.tables.now c.args.map.now.files.items c.loop-table.table-index (c.loop-table.file + 1) c.table-item.result index c.requires.files (omega (arith, c.loop-table.invariant.file_is)) at has

pub returns-in_err-write_table-clause-written : goal.returns-in_err-write_table-clause-written
returns-in_err-write_table-clause-written g c =
    wrote_more g.D.Drive c.args.map.now c.args.tables.now c.requires.files c.requires.tables c.requires.map c.place_laws.ensures.file c.args.drives.now c.loop-table.drives c.write_table.new.drives
    c.loop-table.table-index c.loop-table.file c.table-item.result c.loop-table.invariant c.write_table.ensures.written

pub returns-in_err-write_table-clause-err : goal.returns-in_err-write_table-clause-err
returns-in_err-write_table-clause-err g c =
    let p = err_from_is_err_and c.from_residual.result c.from_residual.ensures.1 in
    rw (p.1, p.2)
    (cause_before g.D.Drive c.args.map.now c.args.tables.now c.requires.files c.requires.tables c.requires.map c.place_laws.ensures.file c.args.drives.now c.loop-table.drives c.write_table.new.drives
    c.loop-table.table-index c.loop-table.file _ c.loop-table.invariant c.in_err-write_table.ensures.err)

pub overflow_add-file : goal.overflow_add-file
overflow_add-file g c =
    let at = some_at c.args.tables.now c.loop-table.table-index c.table-item.result c.loop-table-test.true c.table-item.is in
    omega (arith, c.loop-table.invariant.file_is, next_number c.args.tables.now c.loop-table.table-index c.table-item.result at, c.file_count-file.ensures, number_small c.args.tables.now (c.loop-table.table-index + 1), c.requires.few)

pub loop-table-preserved : goal.loop-table-preserved
loop-table-preserved g c =
    let at = some_at c.args.tables.now c.loop-table.table-index c.table-item.result c.loop-table-test.true c.table-item.is in
    stored g.D.Drive c.args.map.now c.args.tables.now c.requires.files c.requires.tables c.requires.map c.place_laws.ensures.file c.args.drives.now c.loop-table.drives c.write_table.new.drives
    c.loop-table.table-index c.loop-table.file c.file_count-file.result c.table-item.result c.loop-table.invariant at c.file_count-file.ensures c.write_table.ensures.written c.in_ok-write_table.ensures.quiet c.in_ok-write_table.ensures.room c.in_ok-write_table.ensures.ok

pub returns-clause-ok : goal.returns-clause-ok
returns-clause-ok g c =
    hold_at_end g.D.Drive c.args.map.now c.args.tables.now c.requires.files c.requires.tables c.requires.map c.place_laws.ensures.file c.args.drives.now c.loop-table.drives c.loop-table.table-index c.loop-table.file c.loop-table-test.false c.loop-table.invariant

pub returns-clause-rows : goal.returns-clause-rows
returns-clause-rows g c = λ number table columns rows at same few are_rows tell.
    let hold = hold_at_end g.D.Drive c.args.map.now c.args.tables.now c.requires.files c.requires.tables c.requires.map c.place_laws.ensures.file c.args.drives.now c.loop-table.drives c.loop-table.table-index c.loop-table.file c.loop-table-test.false c.loop-table.invariant in
    tell_rows g.D.Drive c.args.map.now c.args.tables.now (IsTablePlace c.args.map.now c.args.tables.now) c.args.drives.now c.loop-table.drives number table columns rows c.requires.files c.requires.tables
    c.loop-table.invariant.wrote hold at same few are_rows tell

pub returns-clause-room_left : goal.returns-clause-room_left
returns-clause-room_left g c =
    room_kept g.D.Drive c.args.map.now (IsTablePlace c.args.map.now c.args.tables.now) c.args.drives.now c.loop-table.drives c.loop-table.invariant.wrote
    (room_at_end g.D.Drive c.args.map.now c.args.tables.now c.requires.files c.requires.tables c.requires.map c.place_laws.ensures.file c.args.drives.now c.loop-table.drives c.loop-table.table-index c.loop-table.file c.loop-table-test.false c.loop-table.invariant)

pub returns-in_err-write_table-clause-quiet : goal.returns-in_err-write_table-clause-quiet
returns-in_err-write_table-clause-quiet g c =
    let p = err_from_is_err_and c.from_residual.result c.from_residual.ensures.1 in
    rw (p.1, p.2) (quiet_trans g.D.Drive _ c.args.drives.now c.loop-table.drives c.write_table.new.drives c.loop-table.invariant.wrote.len c.loop-table.invariant.quiet c.in_err-write_table.ensures.quiet)
