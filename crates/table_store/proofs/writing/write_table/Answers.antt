use Rattle.std.proofs.Common.{◌+◌}
use Rattle.heap_page.specs.Maps.{IsPlace}
use Rattle.key_index.specs.Files.{index_pages}
use Rattle.key_index.specs.Written.{AllStand}
use Rattle.table_store.specs.Images.{HoldTable}
use Rattle.heap_page.specs.Stores.{store_fault}
use Rattle.heap_page.proofs.Drives.{quiet_trans, room_kept}
use Rattle.table_store.proofs.Stored.{both_written, heap_written, hold_both, on_ok, result_cause}
use Rattle.table_store.proofs.writing.write_table.Goals as goal

pub returns-in_err-write_relation-clause-written : goal.returns-in_err-write_relation-clause-written
returns-in_err-write_relation-clause-written g c = heap_written g.D.Drive c.args.map.now c.args.file c.args.table.now c.args.drives.now c.write_relation.new.drives c.write_relation.ensures.written

pub write_index_file-requires-clause-room : goal.write_index_file-requires-clause-room
write_index_file-requires-clause-room g c =
    room_kept g.D.Drive c.args.map.now (IsPlace c.args.map.now c.args.file) c.args.drives.now c.write_relation.new.drives c.write_relation.ensures.written c.in_ok-write_relation.ensures.room

pub returns-in-Some-clause-written : goal.returns-in-Some-clause-written
returns-in-Some-clause-written g c =
    both_written g.D.Drive c.args.map.now c.args.file c.args.table.now c.args.drives.now c.write_relation.new.drives c.write_index_file.new.drives c.in-Some.index c.in-Some.is c.write_relation.ensures.written c.write_index_file.ensures.written

pub returns-in-Some-clause-ok : goal.returns-in-Some-clause-ok
returns-in-Some-clause-ok g c =
    on_ok c.write_index_file.result (AllStand g.D.Drive c.args.map.now (c.args.file + 1) (index_pages (c.args.file + 1) c.in-Some.index.entries) c.write_index_file.new.drives)
    (HoldTable g.D.Drive c.args.map.now c.args.file c.args.table.now c.write_index_file.new.drives)
    (hold_both g.D.Drive c.args.map.now c.args.file c.args.table.now c.write_relation.new.drives c.write_index_file.new.drives c.in-Some.index c.requires.map c.place_laws.ensures.file c.in-Some.is c.requires.heap
    c.write_index_file.ensures.written c.in_ok-write_relation.ensures.ok)
    c.write_index_file.ensures.ok

pub returns-in-Some-clause-err : goal.returns-in-Some-clause-err
returns-in-Some-clause-err g c =
    result_cause g.D.Drive c.args.map.now (IsPlace c.args.map.now c.args.file) c.args.drives.now c.write_relation.new.drives c.write_index_file.new.drives c.write_index_file.result c.write_relation.ensures.written
    c.in_ok-write_relation.ensures.room c.write_index_file.ensures.err

pub returns-in-None-clause-written : goal.returns-in-None-clause-written
returns-in-None-clause-written g c = heap_written g.D.Drive c.args.map.now c.args.file c.args.table.now c.args.drives.now c.write_relation.new.drives c.write_relation.ensures.written

pub returns-in-Some-clause-quiet : goal.returns-in-Some-clause-quiet
returns-in-Some-clause-quiet g c =
    quiet_trans g.D.Drive (store_fault c.write_index_file.result) c.args.drives.now c.write_relation.new.drives c.write_index_file.new.drives c.write_relation.ensures.written.len c.in_ok-write_relation.ensures.quiet c.write_index_file.ensures.quiet
