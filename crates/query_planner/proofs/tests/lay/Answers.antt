use Rattle.std.specs.Prelude.{All, slice_get}
use Rattle.std.proofs.Common.{◌≡◌, ◌∙◌, ℕ, zero, suc, List, [], ◌∷◌, ap, arith, length, map, refl, subst, sym, Some}
use Rattle.rel_meaning.specs.declared.query.Table.{Table}
use Rattle.rows.specs.declared.plain.Relation.{Relation}
use Rattle.table_store.specs.declared.database.Laid.{Laid}
use Rattle.table_store.specs.declared.files.StoredTable.{StoredTable}
use Rattle.table_store.specs.Databases.{AreStored, IsLaid, IsTableOf, MayStore}
use Rattle.table_store.specs.Files.{IsStorable}
use Rattle.query_planner.specs.Stored.{Stands}
use Rattle.query_planner.proofs.Stored.{are_of}
use Rattle.query_planner.proofs.tests.lay.Goals as goal

one_stored : (relation : Relation) (table : Table) → IsTableOf relation table → MayStore (relation ∷ []) (table ∷ [])
one_stored relation table h = record {
  few = omega arith;
  count = refl;
  each = at;
} where
  at : (i : ℕ) (r : Relation) (t : Table) → slice_get (relation ∷ []) i ≡ Some r → slice_get (table ∷ []) i ≡ Some t → IsTableOf r t
  at zero r t at_r at_t =
      let one : relation ≡ r = cc in
      let other : table ≡ t = cc in
      subst (λ (x : Relation). IsTableOf x t) one (subst (λ (x : Table). IsTableOf relation x) other h)
  at (suc i) r t at_r at_t = absurd cc

standing : (relation : Relation) (table : Table) (relations : List Relation) (db : List Table) (rows : List ℕ) (tables : List StoredTable) (count drives : ℕ) (laid : Laid) → IsTableOf relation table →
    relations ≡ relation ∷ [] → db ≡ table ∷ [] → rows ≡ length table.rows ∷ [] → AreStored relations db tables → All IsStorable tables → IsLaid tables count laid → count ≡ drives → Stands relations rows laid drives
standing relation table relations db rows tables count drives laid h one other counts stored storable is same = record {
  tables = tables;
  are = are_of relations db tables rows drives laid (rw (one, other) (one_stored relation table h)) stored storable (subst (λ (n : ℕ). IsLaid tables n laid) same is) (counts ∙ ap (λ (ts : List Table). map (λ (t : Table). length t.rows) ts) (sym other));
}

pub overflow_cast-len : goal.overflow_cast-len
overflow_cast-len g c = omega (arith, (c.in_ok-table.ensures c.in_ok-relation.field-0 c.in_ok-relation.ensures.columns c.in_ok-relation.ensures.index).short.0, c.len.ensures)

pub lay_database-requires-clause-stored : goal.lay_database-requires-clause-stored
lay_database-requires-clause-stored g c =
    let relations = c.from_vec-relations.ensures ∙ c.in_ok-vec.ensures.items in
    let db = c.from_vec-db.ensures ∙ c.in_ok-vec-2.ensures.items in
    rw (relations, db) (one_stored c.in_ok-relation.field-0 c.in_ok-table.table (c.in_ok-table.ensures c.in_ok-relation.field-0 c.in_ok-relation.ensures.columns c.in_ok-relation.ensures.index))

pub returns-in-Ok-clause-stands : goal.returns-in-Ok-clause-stands
returns-in-Ok-clause-stands g c =
    let relations = c.from_vec-relations.ensures ∙ c.in_ok-vec.ensures.items in
    let db = c.from_vec-db.ensures ∙ c.in_ok-vec-2.ensures.items in
    let rows = c.in_ok-rows.ensures.items ∙ ap (λ (n : ℕ). n ∷ []) c.len.ensures in
    let table = c.in_ok-table.ensures c.in_ok-relation.field-0 c.in_ok-relation.ensures.columns c.in_ok-relation.ensures.index in
    let out = c.in-Ok.ensures.laid in
    standing c.in_ok-relation.field-0 c.in_ok-table.table c.from_vec-relations.result c.from_vec-db.result c.in_ok-rows.rows.items out.tables _ c.args.drives.len c.in-Ok.laid table relations db rows out.stored out.storable out.are c.deref_mut.ensures.len
