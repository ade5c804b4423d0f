-- Tables of a database that were laid on drives stand there.
use Rattle.std.proofs.Common.{◌≡◌, ℕ, suc, Option, Some, None, List, [], ◌∷◌, length, map, refl, sym, ap, ap₂, ◌∙◌, arith}
use Rattle.std.specs.Prelude.{slice_get, is_some, All}
use Rattle.std.proofs.lemmas.List.{length-map}
use Rattle.heap_page.proofs.Found.{get_below, there}
use Rattle.rows.specs.declared.plain.Relation.{Relation}
use Rattle.rows.specs.RowBytes.{row_bytes}
use Rattle.rel_meaning.specs.declared.query.Table.{Table}
use Rattle.table_store.specs.declared.database.Laid.{Laid}
use Rattle.table_store.specs.declared.files.StoredIndex.{StoredIndex}
use Rattle.table_store.specs.declared.files.StoredTable.{StoredTable}
use Rattle.table_store.specs.Databases.{AreStored, IsIndexed, IsLaid, IsStored, MayStore}
use Rattle.table_store.specs.Files.{IsStorable, table_blocks}
use Rattle.query_planner.specs.Stored.{AreOf}

-- a table has as many items as rows
as_many : (relation : Relation) (table : Table) (stored : StoredTable) → IsStored relation table stored → length table.rows ≡ length stored.items
as_many relation table stored h = sym (length-map table.rows (row_bytes table.columns)) ∙ sym (ap length h.items)

counted : (relations : List Relation) (db : List Table) (tables : List StoredTable) → length db ≡ length relations → length tables ≡ length relations →
    ((i : ℕ) (relation : Relation) (table : Table) (stored : StoredTable) → slice_get relations i ≡ Some relation → slice_get db i ≡ Some table → slice_get tables i ≡ Some stored → IsStored relation table stored) →
    map (λ (t : Table). length t.rows) db ≡ map (λ (t : StoredTable). length t.items) tables
counted [] [] [] count same each = refl
counted [] [] (t ∷ ts) count same each = absurd (omega (arith, same))
counted [] (d ∷ ds) ts count same each = absurd (omega (arith, count))
counted (r ∷ rs) [] ts count same each = absurd (omega (arith, count))
counted (r ∷ rs) (d ∷ ds) [] count same each = absurd (omega (arith, same))
counted (r ∷ rs) (d ∷ ds) (t ∷ ts) count same each =
    ap₂ (λ (n : ℕ) (ns : List ℕ). n ∷ ns) (as_many r d t (each 0 r d t refl refl refl)) (counted rs ds ts (omega (arith, count)) (omega (arith, same)) (λ i relation table stored at_r at_d at_t. each (suc i) relation table stored at_r at_d at_t))

both : (column : Option ℕ) (table : Table) (blocks : List (List (List ℕ))) (index : Option StoredIndex) → IsIndexed column table blocks index → is_some index ≡ is_some column
both None table blocks None h = refl
both None table blocks (Some index) h = absurd h
both (Some column) table blocks None h = absurd h
both (Some column) table blocks (Some index) h = refl

pub are_of : (relations : List Relation) (db : List Table) (tables : List StoredTable) (rows : List ℕ) (drives : ℕ) (laid : Laid) → MayStore relations db → AreStored relations db tables → All IsStorable tables → IsLaid tables drives laid →
    rows ≡ map (λ (t : Table). length t.rows) db → AreOf relations rows laid drives tables
are_of relations db tables rows drives laid may stored storable is counts = record {
  stand = is;
  storable = storable;
  count = stored.count;
  few = omega (arith, stored.count, may.few);
  counts = counts ∙ counted relations db tables may.count stored.count stored.each;
  indexed = λ i relation table at_r at_t.
      let row = there db i (omega (arith, get_below relations i relation at_r, may.count)) in
      both relation.index row.0 (table_blocks table) table.index (stored.each i relation row.0 table at_r row.1 at_t).index;
}
