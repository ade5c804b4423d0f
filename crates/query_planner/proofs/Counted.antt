-- What is counted of a table and its index.
use Rattle.std.proofs.Common.{◌≡◌, ℕ, false, Some, None, List, [], ◌∷◌, length, map, refl, ap, ◌∙◌}
use Rattle.std.specs.Prelude.{◌==◌, slice_get, option_map}
use Rattle.std.proofs.lemmas.Option.{slice_get-map}
use Rattle.heap_page.proofs.Found.{one_at}
use Rattle.rows.specs.declared.plain.Bound.{Bound}
use Rattle.rows.specs.declared.plain.Interval.{Interval}
use Rattle.rows.specs.declared.plain.Relation.{Relation}
use Rattle.heap_page.specs.declared.map.PageFile.{PageFile}
use Rattle.key_index.specs.Intervals.{interval_of}
use Rattle.seq_optimizer.specs.declared.stats.VarStats.{VarStats}
use Rattle.rel_meaning.specs.Expression.{Question}
use Rattle.table_store.specs.declared.database.Laid.{Laid}
use Rattle.table_store.specs.declared.files.StoredIndex.{StoredIndex}
use Rattle.table_store.specs.declared.files.StoredTable.{StoredTable}
use Rattle.table_store.specs.Databases.{IsLaid}
use Rattle.table_store.specs.Files.{file_number, heap_file, table_blocks}
use Rattle.table_store.proofs.Filed.{file_there}
use Rattle.query_planner.specs.Counted.{bounds_on, height_in, interval_in, stats_in}

-- where there are bounds, some entries are left
pub some_left : (bounds : List Bound) (stored : StoredIndex) (i : Interval) → false ≡ (length bounds == 0) → i ≡ interval_of bounds stored.entries → Some i ≡ interval_in bounds (Some stored)
some_left [] stored i some is = absurd cc
some_left (b ∷ bs) stored i some is = ap Some is

pub none_left : (bounds : List Bound) → interval_in bounds None ≡ None
none_left [] = refl
none_left (b ∷ bs) = refl

-- the heap file of a table, by the number that was laid
pub heap_pages : (tables : List StoredTable) (drives : ℕ) (laid : Laid) (i heap : ℕ) (table : StoredTable) (file : PageFile) → IsLaid tables drives laid → slice_get tables i ≡ Some table → slice_get laid.heaps.items i ≡ Some heap →
    slice_get laid.map.files.items heap ≡ Some file → file.pages ≡ length (table_blocks table)
heap_pages tables drives laid i heap table file h at here there =
    let number : heap ≡ file_number tables i = h.heaps i heap here in
    let mine : slice_get laid.map.files.items heap ≡ Some (heap_file table) = ap (λ (fs : List PageFile). slice_get fs heap) h.of.files ∙ rw number (file_there tables i table at) in
    ap (λ (f : PageFile). f.pages) (one_at laid.map.files.items heap file (heap_file table) there mine)

-- and its number of rows
pub row_count : (tables : List StoredTable) (rows : List ℕ) (i count : ℕ) (table : StoredTable) → rows ≡ map (λ t. length t.items) tables → slice_get tables i ≡ Some table → slice_get rows i ≡ Some count → count ≡ length table.items
row_count tables rows i count table are at here = one_at rows i count (length table.items) here (rw are (slice_get-map (λ (t : StoredTable). length t.items) tables i ∙ ap (option_map (λ (t : StoredTable). length t.items)) at))

pub same_stats : (s : VarStats) (q : Question) (v : ℕ) (relation : Relation) (table : StoredTable) → s.pages ≡ length (table_blocks table) → s.rows ≡ length table.items → s.interval ≡ interval_in (bounds_on relation.index v q) table.index →
    s.height ≡ height_in table.index → s ≡ stats_in q v relation table
same_stats s q v relation table pages rows interval height = λ j. record { pages = pages j; rows = rows j; interval = interval j; height = height j }
