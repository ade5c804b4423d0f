use Rattle.std.proofs.Common.{◌∙◌}
use Rattle.std.proofs.lemmas.List.{take_all}
use Rattle.std.proofs.lemmas.Result.{err_from_is_err_and}
use Rattle.heap_page.specs.declared.errors.FetchErr.TheVariants as fetch
use Rattle.heap_page.proofs.Drives.{quiet_none, quiet_trans, read_trans}
use Rattle.heap_page.proofs.Found.{some_at}
use Rattle.table_store.proofs.DatabaseRead.{cause_of, no_bad, one_back, same_count, same_err}
use Rattle.table_store.proofs.database_reading.read_database.Goals as goal

pub returns-in_err-read_relation-clause-read : goal.returns-in_err-read_relation-clause-read
returns-in_err-read_relation-clause-read g c =
    read_trans g.D.Drive c.args.drives.now c.loop-place.drives c.read_relation.new.drives c.loop-place.invariant.read c.read_relation.ensures.read

pub returns-in_err-read_relation-clause-accepted : goal.returns-in_err-read_relation-clause-accepted
returns-in_err-read_relation-clause-accepted g c = λ db bad e tell is.
    let here = some_at c.items-relation-items.result.now c.loop-place.place c.relation-item.result c.loop-place-test.true c.relation-item.is in
    let number = some_at c.args.laid.now.heaps.items c.loop-place.place c.index-heap.result.now (rw (c.requires.count, ← c.items-relation-items.ensures) c.loop-place-test.true) c.index-heap.ensures in
    let p = err_from_is_err_and c.from_residual.result c.from_residual.ensures.1 in
    no_bad g.D.Drive c.args.laid.now c.args.catalog.now c.args.drives.now c.loop-place.place c.loop-place.tables.items c.loop-place.drives c.relation-item.result c.index-heap.result.now _ c.loop-place.invariant
    (rw (← c.items-relation-items.ensures) here) number c.in_err-read_relation.ensures.accepted db bad e tell (same_err c.from_residual.result p.0 c.in_err-read_relation.field-0.0 (fetch.BadPage bad) p.1 p.2 is)

pub returns-in_err-read_relation-clause-err : goal.returns-in_err-read_relation-clause-err
returns-in_err-read_relation-clause-err g c =
    let here = some_at c.items-relation-items.result.now c.loop-place.place c.relation-item.result c.loop-place-test.true c.relation-item.is in
    let number = some_at c.args.laid.now.heaps.items c.loop-place.place c.index-heap.result.now (rw (c.requires.count, ← c.items-relation-items.ensures) c.loop-place-test.true) c.index-heap.ensures in
    let p = err_from_is_err_and c.from_residual.result c.from_residual.ensures.1 in
    rw (p.1, p.2)
    (cause_of g.D.Drive c.args.laid.now c.args.catalog.now c.loop-place.place c.index-heap.result.now c.relation-item.result c.args.drives.now c.loop-place.drives c.read_relation.new.drives _ (rw (← c.items-relation-items.ensures) here) number
    c.loop-place.invariant.read c.in_err-read_relation.ensures.err)

pub returns-in_err-read_relation-clause-quiet : goal.returns-in_err-read_relation-clause-quiet
returns-in_err-read_relation-clause-quiet g c =
    let p = err_from_is_err_and c.from_residual.result c.from_residual.ensures.1 in
    rw (p.1, p.2)
    (quiet_trans g.D.Drive _ c.args.drives.now c.loop-place.drives c.read_relation.new.drives c.loop-place.invariant.read.len c.loop-place.invariant.quiet c.in_err-read_relation.ensures.quiet)

pub returns-in_err-push-clause-read : goal.returns-in_err-push-clause-read
returns-in_err-push-clause-read g c =
    read_trans g.D.Drive c.args.drives.now c.loop-place.drives c.read_relation.new.drives c.loop-place.invariant.read c.in_ok-read_relation.ensures.read

pub returns-in_err-push-clause-quiet : goal.returns-in_err-push-clause-quiet
returns-in_err-push-clause-quiet g c =
    quiet_trans g.D.Drive _ c.args.drives.now c.loop-place.drives c.read_relation.new.drives c.loop-place.invariant.read.len c.loop-place.invariant.quiet
    (quiet_trans g.D.Drive _ c.loop-place.drives c.read_relation.new.drives c.read_relation.new.drives c.read_relation.ensures.read.len c.in_ok-read_relation.ensures.quiet
    (quiet_none g.D.Drive _ c.read_relation.new.drives))

pub loop-place-preserved : goal.loop-place-preserved
loop-place-preserved g c =
    let here = some_at c.items-relation-items.result.now c.loop-place.place c.relation-item.result c.loop-place-test.true c.relation-item.is in
    let number = some_at c.args.laid.now.heaps.items c.loop-place.place c.index-heap.result.now (rw (c.requires.count, ← c.items-relation-items.ensures) c.loop-place-test.true) c.index-heap.ensures in
    rw c.in_ok-push.ensures.items
    (one_back g.D.Drive c.args.laid.now c.args.catalog.now c.args.drives.now c.loop-place.place c.loop-place.tables.items c.loop-place.drives c.read_relation.new.drives c.relation-item.result c.index-heap.result.now
    c.in_ok-read_relation.field-0 c.loop-place.invariant (rw (← c.items-relation-items.ensures) here) number c.in_ok-read_relation.ensures.read c.in_ok-read_relation.ensures.quiet c.in_ok-read_relation.ensures.room c.in_ok-read_relation.ensures.columns
    c.in_ok-read_relation.ensures.typed c.in_ok-read_relation.ensures.again)

pub returns-clause-again : goal.returns-clause-again
returns-clause-again g c = λ db e tell.
    c.from_vec.ensures ∙ (c.loop-place.invariant.again db e tell ∙ take_all c.loop-place.place db (rw (same_count db c.args.catalog.now e, ← c.items-relation-items.ensures) c.loop-place-test.false))
