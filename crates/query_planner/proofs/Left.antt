-- Intervals that bounds leave, and plans over them.
use Rattle.std.proofs.Common.{◌≡◌, ℕ, ◌≤◌, List, [], ◌∷◌, ◌++◌, length, Option, Some, None, false, refl, sym, subst, ◌∙◌, inl, inr}
use Rattle.std.specs.Prelude.{◌==◌, slice_get}
use Rattle.key_index.specs.Paths.{HasInterval}
use Rattle.rel_meaning.specs.declared.query.Var.{Var}
use Rattle.rel_meaning.specs.Expression.{Question}
use Rattle.rows.specs.declared.plain.Bound.{Bound}
use Rattle.rows.specs.declared.plain.Interval.{Interval}
use Rattle.rows.specs.declared.plain.KeyIndex.{KeyIndex}
use Rattle.rows.specs.declared.plain.Relation.{Relation}
use Rattle.seq_optimizer.specs.declared.stats.VarStats.{VarStats}
use Rattle.table_store.specs.declared.database.Laid.{Laid}
use Rattle.table_store.proofs.Pages.{get_last}
use Rattle.query_planner.specs.Counted.{bounds_on}
use Rattle.query_planner.specs.Plans.{AreLeft, IsLeft}

none_left : (image : Option (ℕ → ℕ → List ℕ)) (bounds : List Bound) → IsLeft image bounds None None
none_left image [] = refl
none_left image (b ∷ bs) = refl

pub some_bound : (image : Option (ℕ → ℕ → List ℕ)) (bounds : List Bound) (index : KeyIndex) (i : Interval) → false ≡ (length bounds == 0) → (i.from ≤ i.upto) × (i.upto ≤ index.entries) →
    ((pages : ℕ → ℕ → List ℕ) → image ≡ Some pages → HasInterval index (pages index.file) bounds i) → IsLeft image bounds (Some index) (Some i)
some_bound image [] index i e within found = absurd cc
some_bound image (b ∷ bs) index i e within found = (i, refl, within.0, within.1, found)

-- no index of the relation, or none of the table
pub no_column : (image : Option (ℕ → ℕ → List ℕ)) (column : Option ℕ) (v : ℕ) (q : Question) (index : Option KeyIndex) → column ≡ None → IsLeft image (bounds_on column v q) index None
no_column image column v q index none = subst (λ (c : Option ℕ). IsLeft image (bounds_on c v q) index None) (sym none) refl

pub no_index : (image : Option (ℕ → ℕ → List ℕ)) (bounds : List Bound) (index : Option KeyIndex) → index ≡ None → IsLeft image bounds index None
no_index image bounds index none = subst (λ (o : Option KeyIndex). IsLeft image bounds o None) (sym none) (none_left image bounds)

-- one more variable
pub one_left : (relations : List Relation) (laid : Laid) (image : Option (ℕ → ℕ → List ℕ)) (q : Question) (stats : List VarStats) (n : ℕ) (s : VarStats) → length stats ≡ n → AreLeft relations laid image q stats →
    ((var : Var) (relation : Relation) (index : Option KeyIndex) → slice_get q.vars n ≡ Some var → slice_get relations var.relation ≡ Some relation → slice_get laid.indexes.items var.relation ≡ Some index → IsLeft image (bounds_on relation.index n q) index s.interval) →
    AreLeft relations laid image q (stats ++ s ∷ [])
one_left relations laid image q stats n s count h one v var relation index x at_v at_r at_i e = elim (get_last stats s v x e) [
  | inl k ↦ h v var relation index x at_v at_r at_i k
  | inr k ↦ (
      let here : v ≡ n = k.0 ∙ count in
      subst (λ (y : VarStats). IsLeft image (bounds_on relation.index v q) index y.interval) k.1
      (subst (λ (m : ℕ). IsLeft image (bounds_on relation.index m q) index s.interval) (sym here) (one var relation index (subst (λ (m : ℕ). slice_get q.vars m ≡ Some var) here at_v) at_r at_i)))
]
