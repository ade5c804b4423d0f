use Rattle.std.proofs.Common.{None, arith}
use Rattle.std.proofs.lemmas.Result.{err_from_is_err_and, on_ok_weaker}
use Rattle.heap_page.specs.Maps.{IsPlace}
use Rattle.heap_page.specs.Stores.{StoreCause, store_fault}
use Rattle.heap_page.proofs.Drives.{cause_later, if_err_map, quiet_trans}
use Rattle.key_index.proofs.Drives.{both_wrote, last_stage, next_stage}
use Rattle.key_index.proofs.writing.write_levels.Goals as goal

pub returns-in_err-write_level-clause-written : goal.returns-in_err-write_level-clause-written
returns-in_err-write_level-clause-written g c = both_wrote g.D.Drive c.args.map.now c.args.file c.args.entries.now c.args.drives.now c.loop-drives.drives c.write_level.new.drives c.loop-drives.invariant.wrote c.write_level.ensures.written

pub returns-in_err-write_level-clause-err : goal.returns-in_err-write_level-clause-err
returns-in_err-write_level-clause-err g c =
    let p = err_from_is_err_and c.from_residual-in_err-write_level.result c.from_residual-in_err-write_level.ensures.1 in
    rw (p.1, p.2) (cause_later g.D.Drive c.args.map.now (IsPlace c.args.map.now c.args.file) c.args.drives.now c.loop-drives.drives c.write_level.new.drives _ c.loop-drives.invariant.wrote c.in_err-write_level.ensures.err c.requires.room)

pub returns-in_err-level-2-clause-written : goal.returns-in_err-level-2-clause-written
returns-in_err-level-2-clause-written g c = both_wrote g.D.Drive c.args.map.now c.args.file c.args.entries.now c.args.drives.now c.loop-drives.drives c.write_level.new.drives c.loop-drives.invariant.wrote c.write_level.ensures.written

pub loop-drives-preserved : goal.loop-drives-preserved
loop-drives-preserved g c =
    next_stage g.D.Drive c.args.map.now c.args.file c.args.entries.now c.args.drives.now c.loop-drives.level c.in_ok-level-2.level c.loop-drives.drives c.write_level.new.drives c.loop-drives.invariant c.write_level.ensures.written
    (c.in_ok-write_level.ensures.ok c.loop-drives.invariant.stands) c.in_ok-write_level.ensures.quiet c.in_ok-level-2.ensures.above c.in_ok-level-2.ensures.follows

pub returns-clause-written : goal.returns-clause-written
returns-clause-written g c = both_wrote g.D.Drive c.args.map.now c.args.file c.args.entries.now c.args.drives.now c.loop-drives.drives c.write_level-2.new.drives c.loop-drives.invariant.wrote c.write_level-2.ensures.written

pub returns-clause-ok : goal.returns-clause-ok
returns-clause-ok g c =
    on_ok_weaker c.write_level-2.result (λ h. last_stage g.D.Drive c.args.map.now c.args.file c.args.entries.now c.args.drives.now c.loop-drives.level c.loop-drives.drives c.write_level-2.new.drives c.requires.keys c.loop-drives.invariant (omega (arith, c.loop-drives-test.false, c.len.ensures)) h)
    (c.write_level-2.ensures.ok c.loop-drives.invariant.stands)

pub returns-clause-err : goal.returns-clause-err
returns-clause-err g c =
    if_err_map c.write_level-2.result (StoreCause g.D.Drive c.args.map.now c.loop-drives.drives c.write_level-2.new.drives) (StoreCause g.D.Drive c.args.map.now c.args.drives.now c.write_level-2.new.drives)
    (λ e h. cause_later g.D.Drive c.args.map.now (IsPlace c.args.map.now c.args.file) c.args.drives.now c.loop-drives.drives c.write_level-2.new.drives e c.loop-drives.invariant.wrote h c.requires.room) c.write_level-2.ensures.err

pub returns-in_err-write_level-clause-quiet : goal.returns-in_err-write_level-clause-quiet
returns-in_err-write_level-clause-quiet g c =
    let p = err_from_is_err_and c.from_residual-in_err-write_level.result c.from_residual-in_err-write_level.ensures.1 in
    rw (p.1, p.2)
    (quiet_trans g.D.Drive _ c.args.drives.now c.loop-drives.drives c.write_level.new.drives c.loop-drives.invariant.wrote.len c.loop-drives.invariant.quiet c.in_err-write_level.ensures.quiet)

pub returns-in_err-level-2-clause-quiet : goal.returns-in_err-level-2-clause-quiet
returns-in_err-level-2-clause-quiet g c =
    let p = err_from_is_err_and c.from_residual-in_err-level-2.result c.from_residual-in_err-level-2.ensures.1 in
    rw (p.1, p.2)
    (quiet_trans g.D.Drive None c.args.drives.now c.loop-drives.drives c.write_level.new.drives c.loop-drives.invariant.wrote.len c.loop-drives.invariant.quiet c.in_ok-write_level.ensures.quiet)

pub returns-clause-quiet : goal.returns-clause-quiet
returns-clause-quiet g c =
    quiet_trans g.D.Drive (store_fault c.write_level-2.result) c.args.drives.now c.loop-drives.drives c.write_level-2.new.drives c.loop-drives.invariant.wrote.len c.loop-drives.invariant.quiet c.write_level-2.ensures.quiet
