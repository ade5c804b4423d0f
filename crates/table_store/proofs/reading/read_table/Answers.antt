use Rattle.std.proofs.Common.{◌∙◌}
use Rattle.std.proofs.lemmas.Result.{err_from_is_err_and}
use Rattle.table_store.proofs.Again.{all_rows, no_bad_result, read_again, tell_kept}
use Rattle.table_store.proofs.Pages.{room_read}
use Rattle.table_store.proofs.reading.read_table.Goals as goal

pub returns-in_err-rows-clause-accepted : goal.returns-in_err-rows-clause-accepted
returns-in_err-rows-clause-accepted g c = λ rows bad t e.
    let p = err_from_is_err_and c.from_residual.result c.from_residual.ensures.1 in
    no_bad_result g.D.Drive c.args.map.now c.args.file c.args.columns.now c.args.drives.now c.requires.map c.requires.drives c.ranges.file.fits c.block_laws.ensures.accepted c.block_laws.ensures.again
    rows c.read_pages.new.drives c.from_residual.result bad t (rw (p.1, p.2) c.in_err-rows.ensures.err) e

pub returns-clause-typed : goal.returns-clause-typed
returns-clause-typed g c = rw c.from_vec.ensures (all_rows c.args.columns.now c.in_ok-rows.rows.items _ c.in_ok-rows.ensures.ok.read.decoded)

pub returns-clause-again : goal.returns-clause-again
returns-clause-again g c = λ rows t.
    c.from_vec.ensures
    ∙ read_again g.D.Drive c.args.map.now c.args.file c.args.columns.now c.args.drives.now c.requires.map c.requires.drives c.ranges.file.fits c.block_laws.ensures.accepted c.block_laws.ensures.again
    rows c.in_ok-rows.rows.items t c.in_ok-rows.ensures.ok

pub returns-in_err-rows-clause-room : goal.returns-in_err-rows-clause-room
returns-in_err-rows-clause-room g c = room_read g.D.Drive c.args.map.now c.args.drives.now c.read_pages.new.drives c.read_pages.ensures.read c.requires.room

pub returns-in_err-rows-clause-kept : goal.returns-in_err-rows-clause-kept
returns-in_err-rows-clause-kept g c = λ other columns rows t. tell_kept g.D.Drive c.args.map.now c.args.drives.now c.read_pages.new.drives other columns rows c.read_pages.ensures.read t

pub returns-clause-room : goal.returns-clause-room
returns-clause-room g c = room_read g.D.Drive c.args.map.now c.args.drives.now c.read_pages.new.drives c.read_pages.ensures.read c.requires.room

pub returns-clause-kept : goal.returns-clause-kept
returns-clause-kept g c = λ other columns rows t. tell_kept g.D.Drive c.args.map.now c.args.drives.now c.read_pages.new.drives other columns rows c.read_pages.ensures.read t
