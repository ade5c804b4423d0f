use Rattle.std.proofs.Common.{◌<◌, length, ap, arith}
use Rattle.table_store.proofs.Placed.{all_placed, item_fits, item_there, one_placed}
use Rattle.table_store.proofs.entries.placed_entries.Goals as goal

pub put_at-at-requires-clause-item : goal.put_at-at-requires-clause-item
put_at-at-requires-clause-item c =
    item_fits c.args.items.now c.loop-number.number c.get-item.result.now (omega (arith, c.loop-number-test.true, ap length c.items-row-items.ensures, c.requires.count)) c.get-item.ensures c.requires.items

pub behind-filling-requires-clause-item : goal.behind-filling-requires-clause-item
behind-filling-requires-clause-item c =
    item_fits c.args.items.now c.loop-number.number c.get-item.result.now (omega (arith, c.loop-number-test.true, ap length c.items-row-items.ensures, c.requires.count)) c.get-item.ensures c.requires.items

pub loop-number-preserved : goal.loop-number-preserved
loop-number-preserved c =
    let n = c.loop-number.number in
    let items = c.args.items.now in
    let x = c.get-item.result.now in
    let lt : n < length c.args.rows.now = omega (arith, c.loop-number-test.true, ap length c.items-row-items.ensures) in
    let few : n < length items = omega (arith, lt, c.requires.count) in
    one_placed c.args.column c.args.rows.now items n c.loop-number.filling c.put_at-at.result c.behind-filling.result c.loop-number.entries.items c.push_entry.new.entries.items
    c.row-item.result x lt few (rw (← c.items-row-items.ensures) c.row-item.is) (item_there items n x c.get-item.ensures) (item_fits items n x few c.get-item.ensures c.requires.items) c.put_at-at.ensures
    c.behind-filling.ensures c.in_ok-push_entry.ensures c.loop-number.invariant

pub returns : goal.returns
returns c = all_placed c.args.column c.args.rows.now c.args.items.now c.loop-number.number c.loop-number.filling c.loop-number.entries.items
    (omega (arith, c.loop-number-test.false, ap length c.items-row-items.ensures)) c.requires.items c.loop-number.invariant
