use Rattle.std.proofs.Common.{arith}
use Rattle.std.proofs.lemmas.Result.{err_from_is_err_and}
use Rattle.table_store.specs.Images.{IsTablePlace}
use Rattle.table_store.proofs.Laying.{hold_image, kept_writing, lay_cause}
use Rattle.table_store.proofs.database.lay.Goals as goal

pub returns-in_err-write_tables-clause-kept : goal.returns-in_err-write_tables-clause-kept
returns-in_err-write_tables-clause-kept g c = kept_writing g.D.Drive (IsTablePlace c.in_ok-map.map c.args.tables.now) c.args.drives.now c.write_tables.new.drives c.write_tables.ensures.written

pub returns-in_err-write_tables-clause-err : goal.returns-in_err-write_tables-clause-err
returns-in_err-write_tables-clause-err g c =
    let p = err_from_is_err_and c.from_residual-in_err-write_tables.result c.from_residual-in_err-write_tables.ensures.1 in
    rw (p.1, p.2)
    (lay_cause g.D.Drive c.args.tables.now c.in_ok-map.map (IsTablePlace c.in_ok-map.map c.args.tables.now) c.args.drives.now c.write_tables.new.drives _
    (record { is_map = c.in_ok-map.ensures.map; files = c.in_ok-map.ensures.files; drives_are = omega (arith, c.in_ok-map.ensures.drives, c.requires.count) }) c.write_tables.ensures.written c.in_err-write_tables.ensures.err)

pub returns-clause-kept : goal.returns-clause-kept
returns-clause-kept g c = kept_writing g.D.Drive (IsTablePlace c.in_ok-map.map c.args.tables.now) c.args.drives.now c.write_tables.new.drives c.write_tables.ensures.written

pub returns-clause-image : goal.returns-clause-image
returns-clause-image g c = λ fresh.
    hold_image g.D.Drive c.in_ok-map.map c.args.tables.now c.in_ok-map.ensures.map c.in_ok-map.ensures.files c.requires.tables c.args.drives.now c.write_tables.new.drives fresh c.write_tables.ensures.written
    c.in_ok-write_tables.ensures.ok c.in_ok-write_tables.ensures.room_left
