use Rattle.std.proofs.Common.{ap, arith, length}
use Rattle.std.proofs.lemmas.List.{length-map}
use Rattle.rows.specs.RowBytes.{row_bytes}
use Rattle.table_store.proofs.Placed.{are_entries}
use Rattle.table_store.proofs.entries.entries_of.Goals as goal

pub returns-clause-are : goal.returns-clause-are
returns-clause-are c =
    let items = c.args.items.now in
    rw c.from_vec.ensures
    (are_entries c.args.columns.now c.args.column c.args.rows.now items c.sort_entries.new.entries.items c.requires.column c.requires.rows
    (omega (arith, length-map c.args.rows.now (row_bytes c.args.columns.now), ap length c.requires.items, c.requires.storable.0))
    c.requires.storable.1
    (record { same = rw (← c.in_ok-entries.ensures) c.in_ok-sort_entries.ensures.same; ordered = c.in_ok-sort_entries.ensures.ordered }))
