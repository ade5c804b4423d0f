-- One statement of a script, behind those that are counted.
use Rattle.std.specs.Prelude.{◌≡◌, ◌<◌, ◌≤◌, ◌-◌, ℕ, List, length, slice_get, Some}
use Rattle.kept_relations.specs.declared.kept.Kept.{Kept}
use Rattle.rel_meaning.specs.declared.query.Var.{Var}
use Rattle.rel_meaning.specs.Expression.{Question}
use Rattle.seq_optimizer.specs.declared.stats.VarStats.{VarStats}
use Rattle.seq_optimizer.specs.Bounds.{IsTyped}
use Rattle.seq_optimizer.specs.Costs.{CanPlan}

-- this place is one of a relation that a statement before this one keeps
pub record IsKeptBefore (kept : List Kept) (statement place : ℕ) : Type 0 where
  pub here : Kept
  pub at : slice_get kept place ≡ Some here
  pub before : here.statement < statement

-- A query at this statement that may be planned: at most six variables, a test that is well typed, and
-- relations that have tables, of which there are so many, or that earlier statements keep.
pub record MayPlanAt (relations : ℕ) (kept : List Kept) (statement : ℕ) (q : Question) : Type 0
  where
    pub few : length q.vars ≤ 6
    pub test : IsTyped q.test
    pub there : (v : ℕ) (var : Var) → slice_get q.vars v ≡ Some var → relations ≤ var.relation →
        IsKeptBefore kept statement (var.relation - relations)

-- the first queries of a script have stats by which they can be planned
pub record CanPlanFirst (qs : List Question) (table : List (List VarStats)) : Type 0 where
  pub within : length table ≤ length qs
  pub each : (i : ℕ) (q : Question) (stats : List VarStats) → slice_get qs i ≡ Some q →
      slice_get table i ≡ Some stats → CanPlan q stats
