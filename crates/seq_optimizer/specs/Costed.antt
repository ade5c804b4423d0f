-- A tree's cost with the set of its variables, as the code finds them.
use Rattle.std.specs.Prelude.{◌≡◌, ◌<◌, ℕ, List, ⊤}
use Rattle.rel_meaning.specs.Expression.{Expression}
use Rattle.plan_tree.specs.Trees.{Shape, one, scan, join, has}
use Rattle.seq_optimizer.specs.declared.stats.VarStats.{VarStats}
use Rattle.seq_optimizer.specs.declared.costs.Costed.{Costed}
use Rattle.seq_optimizer.specs.Costs.{IsWayInterval, cost}
use Rattle.seq_optimizer.specs.Sets.{in_set}

pub record IsCosted (cs : List Expression) (stats : List VarStats) (t : Shape) (c : Costed) : Type 0 where
  pub cost : c.cost ≡ cost cs stats t
  pub set : in_set c.set ≡ has t

-- each scan is of one of so many variables
abbrev pub ScansBelow : ℕ → Shape → Type 0
ScansBelow n (one tests) = ⊤
ScansBelow n (scan v how tests) = v < n
ScansBelow n (join kind a b keys tests) = ScansBelow n a × ScansBelow n b

-- each scan is of one of so many variables, and has an interval that doesn't end before it begins
abbrev pub AreScans : ℕ → Shape → Type 0
AreScans n (one tests) = ⊤
AreScans n (scan v how tests) = (v < n) × IsWayInterval how
AreScans n (join kind a b keys tests) = AreScans n a × AreScans n b
