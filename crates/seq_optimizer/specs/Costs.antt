-- What trees cost, and which tree is chosen.
use Rattle.std.specs.Prelude.{◌≡◌, ◌<◌, ◌≤◌, ℕ, ◌+◌, ◌-◌, ◌*◌, ◌^◌, Bool, false, ◌||◌, List, length, min, Some, All, IfSome, ⊤}
use Rattle.std.specs.Int.Count.{count_leading_zeros}
use Rattle.rows.specs.declared.plain.Interval.{Interval}
use Rattle.rows.specs.declared.plain.KeyPair.{KeyPair}
use Rattle.rel_meaning.specs.Expression.{Expression, Question}
use Rattle.plan_tree.specs.declared.tree.Way.{Way}
use Rattle.plan_tree.specs.declared.tree.Way.TheVariants as way
use Rattle.plan_tree.specs.declared.tree.Method.{Method}
use Rattle.plan_tree.specs.declared.tree.Method.TheVariants as method
use Rattle.plan_tree.specs.Trees.{Shape, one, scan, join, has, IsTreeOf}
use Rattle.seq_optimizer.specs.declared.stats.VarStats.{VarStats}
use Rattle.seq_optimizer.specs.Estimates.{limit, set_size, stats_at, variable_sizes}

abbrev pub index_cost : ℕ → ℕ → ℕ
index_cost entries height = min (8 * (entries + height) + entries) limit

-- the cost of the scan of a variable
abbrev pub scan_cost : List VarStats → ℕ → Way → ℕ
scan_cost stats v way.Heap = min (8 * (stats_at stats v).pages + (stats_at stats v).rows) limit
scan_cost stats v (way.Index i) = index_cost (i.upto - i.from) (stats_at stats v).height

-- how many binary digits a number has, none for 0
abbrev pub digits : ℕ → ℕ
digits n = 64 - count_leading_zeros 64 n

-- the cost of sorting so many rows
abbrev pub sort_cost : ℕ → ℕ
sort_cost n = n * digits n

-- what a join costs beside its sides, from the estimates of the first side, the second side and both together
abbrev pub step_cost : Method → ℕ → ℕ → ℕ → ℕ
step_cost method.Hash a b both = 2 * a + b + both
step_cost method.Merge a b both = sort_cost a + sort_cost b + a + b + both

-- the cost of a tree
abbrev pub cost : List Expression → List VarStats → Shape → ℕ
cost cs stats (one tests) = 1
cost cs stats (scan v how tests) = scan_cost stats v how
cost cs stats (join kind a b keys tests) =
    min (cost cs stats a + cost cs stats b
    + step_cost kind (set_size cs (variable_sizes cs stats) (has a)) (set_size cs (variable_sizes cs stats) (has b)) (set_size cs (variable_sizes cs stats) (λ v. has a v || has b v)))
    limit

-- a way to read the variable: an index scan has the interval that the stats hold for it
abbrev pub CanRead : List VarStats → ℕ → Way → Type 0
CanRead stats v way.Heap = ⊤
CanRead stats v (way.Index i) = (stats_at stats v).interval ≡ Some i

-- each index scan of the tree has the interval that the stats hold for its variable
abbrev pub FitsStats : List VarStats → Shape → Type 0
FitsStats stats (one tests) = ⊤
FitsStats stats (scan v how tests) = CanRead stats v how
FitsStats stats (join kind a b keys tests) = FitsStats stats a × FitsStats stats b

-- the number of the set of a tree's variables: variable v counts 2 ^ v
abbrev pub number_of : Shape → ℕ
number_of (one tests) = 0
number_of (scan v how tests) = 2 ^ v
number_of (join kind a b keys tests) = number_of a + number_of b

-- no tree of the same variables that fits the stats costs less
unfoldable pub IsLeast : List Expression → List VarStats → Method → Bool → Shape → Type 0
IsLeast cs stats m root t = (u : Shape) → IsTreeOf cs m root (has t) u → FitsStats stats u → cost cs stats t ≤ cost cs stats u

-- of the joins of the same variables that cost as little as the tree, none has a first side with a smaller number than this
unfoldable pub HasFirstSide : List Expression → List VarStats → Method → Bool → Shape → ℕ → Type 0
HasFirstSide cs stats m root t number = (kind : Method) (a b : Shape) (keys : List KeyPair) (tests : List Expression) → IsTreeOf cs m root (has t) (join kind a b keys tests) → FitsStats stats (join kind a b keys tests)
    → cost cs stats (join kind a b keys tests) ≡ cost cs stats t → number ≤ number_of a

-- the heap scan, unless the stats hold an interval and the index scan with it costs less
abbrev pub IsChosenWay : List VarStats → ℕ → Way → Type 0
IsChosenWay stats v way.Heap = IfSome (stats_at stats v).interval (λ i. scan_cost stats v way.Heap ≤ scan_cost stats v (way.Index i))
IsChosenWay stats v (way.Index i) = scan_cost stats v (way.Index i) < scan_cost stats v way.Heap

-- the chosen tree of its variables: a least one, of these one whose first side has the smallest number, and its sides are the chosen trees of their variables
unfoldable pub IsChosen : List Expression → List VarStats → Method → Bool → Shape → Type 0
IsChosen cs stats m root (one tests) = ⊤
IsChosen cs stats m root (scan v how tests) = IsChosenWay stats v how
IsChosen cs stats m root (join kind a b keys tests) =
    IsLeast cs stats m root (join kind a b keys tests) × HasFirstSide cs stats m root (join kind a b keys tests) (number_of a) × IsChosen cs stats m false a × IsChosen cs stats m false b

abbrev pub IsInterval : Interval → Type 0
IsInterval i = i.from ≤ i.upto

abbrev pub IsWayInterval : Way → Type 0
IsWayInterval way.Heap = ⊤
IsWayInterval (way.Index i) = IsInterval i

-- no interval of the tree ends before it begins
abbrev pub HasIntervals : Shape → Type 0
HasIntervals (one tests) = ⊤
HasIntervals (scan v how tests) = IsWayInterval how
HasIntervals (join kind a b keys tests) = HasIntervals a × HasIntervals b

-- what a query and its stats keep: at most six variables, an entry of stats for each, and no interval that ends before it begins
pub record CanPlan (q : Question) (stats : List VarStats) : Type 0 where
  pub few : length q.vars ≤ 6
  pub each : length stats ≡ length q.vars
  pub intervals : All (λ s. IfSome s.interval IsInterval) stats
