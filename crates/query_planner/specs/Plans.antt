-- Queries that may be planned, and their plans.
use Rattle.std.specs.Prelude.{◌≡◌, ℕ, ◌<◌, ◌≤◌, List, [], ◌∷◌, length, map, slice_get, Option, Some, None, All, IfSome}
use Rattle.fragments.specs.Premises.{IsKept}
use Rattle.kept_relations.specs.declared.kept.Kept.{Kept}
use Rattle.kept_relations.specs.Fitting.{FitKept}
use Rattle.key_index.specs.Paths.{HasInterval}
use Rattle.plan_tree.specs.declared.tree.Method.{Method}
use Rattle.plan_tree.specs.Views.{Planned}
use Rattle.rel_meaning.specs.Expression.{Question}
use Rattle.rel_meaning.specs.Meaning.{layout_column}
use Rattle.rel_meaning.specs.declared.query.Var.{Var}
use Rattle.rows.specs.declared.plain.Bound.{Bound}
use Rattle.rows.specs.declared.plain.Interval.{Interval}
use Rattle.rows.specs.declared.plain.KeyIndex.{KeyIndex}
use Rattle.rows.specs.declared.plain.LayoutColumn.{LayoutColumn}
use Rattle.rows.specs.declared.plain.Relation.{Relation}
use Rattle.seq_optimizer.specs.declared.stats.VarStats.{VarStats}
use Rattle.seq_optimizer.specs.Best.{IsBestTree}
use Rattle.table_store.specs.declared.database.Laid.{Laid}
use Rattle.table_store.specs.declared.files.StoredTable.{StoredTable}
use Rattle.query_planner.specs.Counted.{AreStats, CountAllKept, bounds_on}

-- ---- which queries

-- the columns of each relation of a catalogue
abbrev pub relation_columns : List Relation → List (List LayoutColumn)
relation_columns relations = map (λ (r : Relation). map layout_column r.columns) relations

-- the queries of a script that may be planned: they are resolved for the relations of the catalogue
-- and for what earlier ones keep, and each has at most six variables
pub record MayPlan (relations : List Relation) (kept : List Kept) (qs : List Question) : Type 0
  where
    pub fits : FitKept (relation_columns relations) kept qs
    pub few : All (λ (q : Question). length q.vars ≤ 6) qs

-- What else it takes to cut plans into fragments: at most 16 queries whose keys are among their
-- targets, at most 32 columns in each relation and in what is kept, and indexes on columns.
pub record MayCutPlans (relations : List Relation) (kept : List Kept)
    (qs : List Question) : Type 0 where
  pub few : length qs ≤ 16
  pub narrow : All (λ (here : Relation). length here.columns ≤ 32) relations
  pub indexed : All (λ (here : Relation). IfSome here.index (λ column.
      column < length here.columns)) relations
  pub bounds : All IsKept kept
  pub keys : All (λ (q : Question). All (λ key. key.column < length q.targets) q.keys) qs

-- ---- plans where the drives tell the tables

-- the best plan of a query, where its variables have these stats
pub record IsPlanBy (m : Method) (q : Question) (stats : List VarStats) (p : Planned) : Type 0 where
  pub query : p.query ≡ q
  pub best : IsBestTree q stats m p.tree p.cost

-- the same of each query, where this table has the stats of each
pub record ArePlansBy (m : Method) (qs : List Question) (table : List (List VarStats))
    (ps : List Planned) : Type 0 where
  pub count : length ps ≡ length qs
  pub each : (i : ℕ) (q : Question) (stats : List VarStats) (p : Planned) →
      slice_get qs i ≡ Some q → slice_get table i ≡ Some stats → slice_get ps i ≡ Some p →
      IsPlanBy m q stats p

-- the best plans of the queries of a script by what is counted, which stands in this table
pub record AreBestPlans (relations : List Relation) (tables : List StoredTable) (kept : List Kept)
    (m : Method) (qs : List Question) (table : List (List VarStats))
    (ps : List Planned) : Type 0 where
  pub stats : AreStats relations tables kept qs table
  pub plans : ArePlansBy m qs table ps

-- ---- what holds whatever the drives tell

-- The entries that bounds leave of an index: an interval is there exactly where there are both. It
-- lies within the index's entries, and where the image is told, searches over the index's pages
-- found its ends.
abbrev pub IsLeft : Option (ℕ → ℕ → List ℕ) → List Bound → Option KeyIndex →
    Option Interval → Type 0
IsLeft image [] index found = found ≡ None
IsLeft image (b ∷ bs) None found = found ≡ None
IsLeft image (b ∷ bs) (Some index) found =
    (i : Interval) × (found ≡ Some i) × (i.from ≤ i.upto) × (i.upto ≤ index.entries) ×
    ((pages : ℕ → ℕ → List ℕ) → image ≡ Some pages →
    HasInterval index (pages index.file) (b ∷ bs) i)

-- those that a query's bounds leave for each variable whose relation has a table
abbrev pub AreLeft : List Relation → Laid → Option (ℕ → ℕ → List ℕ) → Question →
    List VarStats → Type 0
AreLeft relations laid image q stats =
    (v : ℕ) (var : Var) (relation : Relation) (index : Option KeyIndex) (s : VarStats) →
    slice_get q.vars v ≡ Some var → slice_get relations var.relation ≡ Some relation →
    slice_get laid.indexes.items var.relation ≡ Some index → slice_get stats v ≡ Some s →
    IsLeft image (bounds_on relation.index v q) index s.interval

-- an entry for each variable of a query: its interval is the one that its bounds leave, and of a
-- kept relation all is counted
pub record AreFoundOf (relations : List Relation) (laid : Laid)
    (image : Option (ℕ → ℕ → List ℕ)) (kept : List Kept) (qs : List Question)
    (table : List (List VarStats)) (q : Question) (stats : List VarStats) : Type 0 where
  pub each : length stats ≡ length q.vars
  pub left : AreLeft relations laid image q stats
  pub of_kept : CountAllKept (length relations) kept qs table q stats

-- the same of each query
pub record AreFound (relations : List Relation) (laid : Laid) (image : Option (ℕ → ℕ → List ℕ))
    (kept : List Kept) (qs : List Question) (table : List (List VarStats)) : Type 0 where
  pub count : length table ≡ length qs
  pub queries : (i : ℕ) (q : Question) (stats : List VarStats) → slice_get qs i ≡ Some q →
      slice_get table i ≡ Some stats → AreFoundOf relations laid image kept qs table q stats

-- The plans of the queries of a script: the best trees under the method by the stats of this table,
-- whose intervals are those that the queries' bounds leave.
pub record ArePlannedOver (relations : List Relation) (laid : Laid)
    (image : Option (ℕ → ℕ → List ℕ)) (kept : List Kept) (m : Method) (qs : List Question)
    (table : List (List VarStats)) (ps : List Planned) : Type 0 where
  pub stats : AreFound relations laid image kept qs table
  pub plans : ArePlansBy m qs table ps
