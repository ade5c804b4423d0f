use Rattle.heap_page.proofs.Found.{some_at}
use Rattle.table_store.proofs.Laying.{one_encoded}
use Rattle.table_store.proofs.database.stored_tables.Goals as goal

pub stored_table-requires : goal.stored_table-requires
stored_table-requires c =
    let here = some_at c.items-relation-items.result.now c.loop-place.place c.relation-item.result c.loop-place-test.true c.relation-item.is in
    c.requires.each c.loop-place.place c.relation-item.result c.get.result.now (rw (← c.items-relation-items.ensures) here) c.get.ensures

pub loop-place-preserved : goal.loop-place-preserved
loop-place-preserved c =
    let here = some_at c.items-relation-items.result.now c.loop-place.place c.relation-item.result c.loop-place-test.true c.relation-item.is in
    rw c.in_ok-push.ensures.items
    (one_encoded c.args.catalog.now c.args.db.now c.loop-place.place c.loop-place.tables.items c.relation-item.result c.get.result.now c.in_ok-stored_table.field-0 c.loop-place.invariant
    (rw (← c.items-relation-items.ensures) here) c.get.ensures c.in_ok-stored_table.ensures.stored c.in_ok-stored_table.ensures.storable)
