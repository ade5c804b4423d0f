use Rattle.std.proofs.Common.{◌≡◌, ℕ, ◌+◌, ◌∙◌, ap, arith}
use Rattle.heap_page.proofs.Found.{some_at}
use Rattle.table_store.specs.Files.{file_number, numbers_in, table_blocks}
use Rattle.std.specs.Prelude.{length}
use Rattle.table_store.proofs.Filed.{number_small}
use Rattle.table_store.proofs.Laying.{one_planned}
use Rattle.table_store.proofs.database.index_list.Goals as goal

pub overflow_add-file : goal.overflow_add-file
overflow_add-file c = omega (arith, c.heap_file_number-file.ensures.number, number_small c.args.tables.now c.loop-table.table, c.requires.few)

pub loop-table-preserved : goal.loop-table-preserved
loop-table-preserved c =
    let at = some_at c.args.tables.now c.loop-table.table c.index-tables-table.result (omega (arith, c.loop-table-test.true, c.loop-table.auto.table-end)) c.index-tables-table.is in
    let file : c.heap_file_number-file.result + 1 ≡ file_number c.args.tables.now c.loop-table.table + 1 = omega (arith, c.heap_file_number-file.ensures.number) in
    rw c.in_ok-push.ensures.items
    (one_planned c.args.tables.now c.loop-table.table c.loop-table.indexes.items c.index-tables-table.result c.in_ok-index_numbers.field-0 c.loop-table.invariant at
    (c.in_ok-index_numbers.ensures ∙ ap (λ (f : ℕ). numbers_in f (length (table_blocks c.index-tables-table.result)) c.index-tables-table.result.index) file))
