use Rattle.std.proofs.Common.{◌≡◌, ◌+◌, ◌<◌, ◌∙◌, arith, length, Some, ap, get_or}
use Rattle.std.specs.Prelude.{slice_get}
use Rattle.std.proofs.lemmas.List.{length-map}
use Rattle.std.proofs.lemmas.Option.{slice_get-get_or}
use Rattle.heap_page.proofs.Found.{some_at}
use Rattle.table_store.specs.declared.files.StoredTable.{StoredTable}
use Rattle.table_store.specs.Files.{file_number, files_of, table_blocks}
use Rattle.table_store.proofs.Filed.{all_at}
use Rattle.query_planner.proofs.Counted.{heap_pages, row_count}
use Rattle.query_planner.proofs.Standing.{told_index}
use Rattle.query_planner.proofs.counting.counted.Goals as goal

pub returns-clause-pages : goal.returns-clause-pages
returns-clause-pages c = λ tables table are at.
    let laid = c.args.known.now.laid.now in
    let here : slice_get laid.heaps.items c.args.relation ≡ Some c.index.result.now = some_at laid.heaps.items c.args.relation c.index.result.now (omega (arith, are.stand.count, are.count, c.requires.relation)) c.index.ensures in
    let below : c.index.result.now < length (files_of tables) = all_at (λ heap. heap < length (files_of tables)) laid.heaps.items c.args.relation c.index.result.now are.stand.within here in
    let file : slice_get laid.map.files.items c.index.result.now ≡ Some c.index-2.result.now = some_at laid.map.files.items c.index.result.now c.index-2.result.now (omega (arith, below, ap length are.stand.of.files)) c.index-2.ensures in
    heap_pages tables laid.map.drives laid c.args.relation c.index.result.now table c.index-2.result.now are.stand at here file

pub returns-clause-rows : goal.returns-clause-rows
returns-clause-rows c = λ tables table are at.
    let rows = c.args.known.now.rows.now in
    let count : length rows ≡ length tables = ap length are.counts ∙ length-map tables (λ (t : StoredTable). length t.items) in
    row_count tables rows c.args.relation (get_or rows c.args.relation 0) table are.counts at (slice_get-get_or rows c.args.relation 0 (omega (arith, count, are.count, c.requires.relation)))

pub returns-clause-height : goal.returns-clause-height
returns-clause-height c = λ tables table are at.
    let laid = c.args.known.now.laid.now in
    c.height_of.ensures (file_number tables c.args.relation + 1) (length (table_blocks table)) table.index (told_index c.args.known.now.relations.now c.args.known.now.rows.now laid c.args.relation tables table c.index-3.result.now are at c.index-3.ensures)
