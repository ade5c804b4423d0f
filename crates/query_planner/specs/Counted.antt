-- What plans rest on: counted of tables, and of the queries that keep relations.
use Rattle.std.specs.Prelude.{◌≡◌, ◌≤◌, ◌-◌, ℕ, List, [], ◌∷◌, length, slice_get, Option, Some, None}
use Rattle.key_index.specs.Intervals.{interval_of}
use Rattle.key_index.specs.Levels.{levels_of}
use Rattle.kept_relations.specs.declared.kept.Kept.{Kept}
use Rattle.plan_tree.specs.Conjuncts.{conjuncts}
use Rattle.plan_tree.specs.Trees.{is_variable}
use Rattle.rel_meaning.specs.declared.query.Var.{Var}
use Rattle.rel_meaning.specs.Expression.{Question}
use Rattle.rows.specs.declared.plain.Bound.{Bound}
use Rattle.rows.specs.declared.plain.Interval.{Interval}
use Rattle.rows.specs.declared.plain.Relation.{Relation}
use Rattle.seq_optimizer.specs.declared.stats.VarStats.{VarStats}
use Rattle.seq_optimizer.specs.Bounds.{bounds_of}
use Rattle.seq_optimizer.specs.Estimates.{set_size, variable_sizes}
use Rattle.table_store.specs.declared.files.StoredIndex.{StoredIndex}
use Rattle.table_store.specs.declared.files.StoredTable.{StoredTable}
use Rattle.table_store.specs.Files.{table_blocks}

-- ---- tables

-- how many levels the index has, 0 where there is none
abbrev pub height_in : Option StoredIndex → ℕ
height_in None = 0
height_in (Some index) = length (levels_of index.entries)

-- the bounds that a query sets to the indexed column of a variable, none where there is no index
abbrev pub bounds_on : Option ℕ → ℕ → Question → List Bound
bounds_on None v q = []
bounds_on (Some column) v q = bounds_of v column (conjuncts q.test)

-- the entries that bounds leave, where there are an index and bounds
abbrev pub interval_in : List Bound → Option StoredIndex → Option Interval
interval_in [] index = None
interval_in (b ∷ bs) None = None
interval_in (b ∷ bs) (Some index) = Some (interval_of (b ∷ bs) index.entries)

-- what is counted for variable v of a query, whose relation has this table
abbrev pub stats_in : Question → ℕ → Relation → StoredTable → VarStats
stats_in q v relation table = record {
  pages = length (table_blocks table);
  rows = length table.items;
  interval = interval_in (bounds_on relation.index v q) table.index;
  height = height_in table.index;
}

-- these are counted of the tables of a query's variables
abbrev pub CountTables : List Relation → List StoredTable → Question → List VarStats → Type 0
CountTables relations tables q stats =
    (v : ℕ) (var : Var) (relation : Relation) (table : StoredTable) (s : VarStats) →
    slice_get q.vars v ≡ Some var → slice_get relations var.relation ≡ Some relation →
    slice_get tables var.relation ≡ Some table → slice_get stats v ≡ Some s →
    s ≡ stats_in q v relation table

-- ---- kept relations

-- how many rows the answer of a query is taken to have, where its variables have these stats
abbrev pub rows_made : Question → List VarStats → ℕ
rows_made q stats = set_size (conjuncts q.test) (variable_sizes (conjuncts q.test) stats)
    (is_variable q)

-- What is counted of the kept relation at a place, where the queries have the stats of this table: no
-- page, no index, and as many rows as the answer of the query that keeps it is taken to have.
pub record CountsKept (kept : List Kept) (qs : List Question) (table : List (List VarStats))
    (place : ℕ) (s : VarStats) : Type 0 where
  pub pages : s.pages ≡ 0
  pub rows : (here : Kept) (q : Question) (stats : List VarStats) →
      slice_get kept place ≡ Some here → slice_get qs here.statement ≡ Some q →
      slice_get table here.statement ≡ Some stats → s.rows ≡ rows_made q stats
  pub interval : s.interval ≡ None
  pub height : s.height ≡ 0

-- The same of each variable of a query whose relation is kept. So many relations have tables, and the
-- kept ones are numbered behind them.
abbrev pub CountAllKept : ℕ → List Kept → List Question → List (List VarStats) → Question →
    List VarStats → Type 0
CountAllKept relations kept qs table q stats =
    (v : ℕ) (var : Var) (s : VarStats) → slice_get q.vars v ≡ Some var →
    relations ≤ var.relation → slice_get stats v ≡ Some s →
    CountsKept kept qs table (var.relation - relations) s

-- ---- scripts

-- an entry for each variable of a query
pub record AreStatsOf (relations : List Relation) (tables : List StoredTable) (kept : List Kept)
    (qs : List Question) (table : List (List VarStats)) (q : Question)
    (stats : List VarStats) : Type 0 where
  pub each : length stats ≡ length q.vars
  pub of_tables : CountTables relations tables q stats
  pub of_kept : CountAllKept (length relations) kept qs table q stats

-- A list of stats for each query of a script: an entry for each of its variables, counted of its
-- relation's table, or of the query that keeps its relation, by that query's own stats.
pub record AreStats (relations : List Relation) (tables : List StoredTable) (kept : List Kept)
    (qs : List Question) (table : List (List VarStats)) : Type 0 where
  pub count : length table ≡ length qs
  pub queries : (i : ℕ) (q : Question) (stats : List VarStats) → slice_get qs i ≡ Some q →
      slice_get table i ≡ Some stats → AreStatsOf relations tables kept qs table q stats
