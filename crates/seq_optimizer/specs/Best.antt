-- The plan of a query.
use Rattle.std.specs.Prelude.{◌≡◌, ◌≤◌, ◌^◌, ◌-◌, ℕ, true, List, length}
use Rattle.rel_meaning.specs.Expression.{Expression, Question}
use Rattle.plan_tree.specs.declared.tree.Method.{Method}
use Rattle.plan_tree.specs.Conjuncts.{conjuncts}
use Rattle.plan_tree.specs.Trees.{IsTree, Shape}
use Rattle.seq_optimizer.specs.declared.stats.VarStats.{VarStats}
use Rattle.seq_optimizer.specs.Costs.{FitsStats, IsChosen, cost}
use Rattle.seq_optimizer.specs.Placed.{placed}
use Rattle.seq_optimizer.specs.Tables.{IsChosenOutline, IsOutline, Outline, mask_of, outline_cost, world_of}

-- a tree of the query under the method that fits the stats, the chosen one, with its cost; no tree of the query under the method that fits the stats costs less
pub record IsBestTree (q : Question) (stats : List VarStats) (m : Method) (t : Shape) (price : ℕ) : Type 0 where
  pub tree : IsTree q m t
  pub fits : FitsStats stats t
  pub chosen : IsChosen (conjuncts q.test) stats m true t
  pub costs : price ≡ cost (conjuncts q.test) stats t
  pub least : (u : Shape) → IsTree q m u → FitsStats stats u → price ≤ cost (conjuncts q.test) stats u

-- the placed tree of the chosen outline over all variables, with its cost
pub record IsFound (cs : List Expression) (stats : List VarStats) (m : Method) (t : Shape) (price : ℕ) : Type 0 where
  pub outline : Outline
  pub placed_as : t ≡ placed cs m true outline
  pub is_outline : IsOutline (world_of cs stats m) outline
  pub set : mask_of outline ≡ 2 ^ length stats - 1
  pub chosen : IsChosenOutline (world_of cs stats m) outline
  pub costs : price ≡ outline_cost (world_of cs stats m) outline
