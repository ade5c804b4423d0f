-- Tables that are read one after another can be stored.
use Rattle.std.proofs.Common.{◌≡◌, ◌<◌, ℕ, suc, ◌+◌, List, [], ◌∷◌, ◌++◌, length, map, get_or, refl, ap, ap₂, ◌∙◌, arith, inl, inr, Some}
use Rattle.std.specs.Prelude.{slice_get, All}
use Rattle.std.proofs.lemmas.List.{length-append}
use Rattle.catalog_load.specs.Limits.{HasLimits}
use Rattle.heap_page.proofs.Found.{one_at, some_at}
use Rattle.rows.specs.declared.plain.Column.{Column}
use Rattle.rows.specs.declared.plain.Relation.{Relation}
use Rattle.rows.specs.RowBytes.{IsRowOf}
use Rattle.rel_meaning.specs.declared.query.Table.{Table}
use Rattle.name_check.specs.Resolved.{AreTables}
use Rattle.table_store.specs.Databases.{IsTableOf, MayStore}
use Rattle.table_store.proofs.Pages.{get_last}
use Rattle.xprs_top.proofs.Tables.{is_table}

-- the tables so far
pub record Loaded (relations : List Relation) (count : ℕ) (db : List Table) : Type 0 where
  pub done : length db ≡ count
  pub each : (i : ℕ) (relation : Relation) (table : Table) → slice_get relations i ≡ Some relation → slice_get db i ≡ Some table → IsTableOf relation table

pub none_loaded : (relations : List Relation) → Loaded relations 0 []
none_loaded relations = record { done = refl; each = λ i r t at_r at_t. absurd cc }

pub one_loaded : (relations : List Relation) (count : ℕ) (db news : List Table) (relation : Relation) (table : Table) → Loaded relations count db → count < length relations → relation ≡ get_or relations count relation →
    IsTableOf relation table → news ≡ db ++ table ∷ [] → Loaded relations (count + 1) news
one_loaded relations count db news relation table h lt at is pushed = rw pushed (record {
  done = length-append db (table ∷ []) ∙ ap (λ (n : ℕ). n + 1) h.done;
  each = λ i r t at_r at_t. elim (get_last db table i t at_t) [
    | inl k ↦ h.each i r t at_r k
    | inr k ↦ (
        let here = some_at relations count relation lt at in
        let place : i ≡ count = k.0 ∙ h.done in
        let same : relation ≡ r = one_at relations i relation r (rw place here) at_r in
        rw (← same, ← k.1) is)
  ];
})

pub all_loaded : (relations : List Relation) (count : ℕ) (db : List Table) → HasLimits relations → Loaded relations count db → count ≡ length relations → MayStore relations db
all_loaded relations count db limits h e = record { few = limits.relations; count = h.done ∙ e; each = h.each }

-- tables that can be stored have the columns of their relations
pub columns_agree : (relations : List Relation) (db : List Table) → length db ≡ length relations → ((i : ℕ) (relation : Relation) (table : Table) → slice_get relations i ≡ Some relation → slice_get db i ≡ Some table → IsTableOf relation table) →
    map (λ (t : Table). t.columns) db ≡ map (λ (r : Relation). r.columns) relations
columns_agree [] [] e each = refl
columns_agree [] (t ∷ db) e each = absurd (omega (arith, e))
columns_agree (r ∷ relations) [] e each = absurd (omega (arith, e))
columns_agree (r ∷ relations) (t ∷ db) e each =
    ap₂ (λ (c : List Column) (cs : List (List Column)). c ∷ cs) (each 0 r t refl refl).columns (columns_agree relations db (omega (arith, e)) (λ i x y at_x at_y. each (suc i) x y at_x at_y))

-- tables whose rows are of their columns
pub are_tables : (relations : List Relation) (db : List Table) → map (λ (t : Table). t.columns) db ≡ map (λ (r : Relation). r.columns) relations → All (λ t. All (IsRowOf t.columns) t.rows) db → AreTables relations db
are_tables relations db columns typed = record { columns = columns; tables = λ k d lt. is_table (get_or db k d).columns (get_or db k d).rows (typed k d lt) }
