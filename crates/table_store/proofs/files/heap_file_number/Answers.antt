use Rattle.std.proofs.Common.{◌≡◌, ◌+◌, arith}
use Rattle.heap_page.proofs.Found.{some_at}
use Rattle.table_store.proofs.Filed.{next_number, number_small, number_within}
use Rattle.table_store.proofs.files.heap_file_number.Goals as goal

pub overflow_add-file : goal.overflow_add-file
overflow_add-file c =
    let at = some_at c.args.tables.now c.loop-earlier.earlier c.index-tables-earlier.result (omega (arith, c.loop-earlier-test.true, c.requires.table)) c.index-tables-earlier.is in
    omega (arith, c.loop-earlier.invariant, next_number c.args.tables.now c.loop-earlier.earlier c.index-tables-earlier.result at, c.file_count-file.ensures, number_small c.args.tables.now (c.loop-earlier.earlier + 1), c.requires.few)

pub returns-clause-within : goal.returns-clause-within
returns-clause-within c =
    let e : c.loop-earlier.earlier ≡ c.args.table = omega (arith, c.loop-earlier.auto.earlier-end, c.loop-earlier-test.false) in
    rw (c.loop-earlier.invariant, e) (number_within c.args.tables.now c.args.table c.requires.table)
