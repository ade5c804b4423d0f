-- The table of the chosen trees of the sets of variables, as the code fills it. A set is given by its number.
use Rattle.std.specs.Prelude.{◌≡◌, ◌<◌, ◌≤◌, ◌+◌, ◌-◌, ◌^◌, ℕ, List, Option, Some, None, length, map, min, slice_get, slice_index_or, MatchOption, All, IfSome, nat_le, if◌then◌else◌}
use Rattle.std.specs.List.{range_with_len}
use Rattle.std.specs.Int.Bits.{bit_and}
use Rattle.rel_meaning.specs.Expression.{Expression}
use Rattle.plan_tree.specs.declared.tree.Way.{Way}
use Rattle.plan_tree.specs.declared.tree.Method.{Method}
use Rattle.plan_tree.specs.Keys.{keys_of}
use Rattle.plan_tree.specs.Trees.{method_at}
use Rattle.seq_optimizer.specs.declared.stats.VarStats.{VarStats}
use Rattle.seq_optimizer.specs.declared.table.Choice.TheVariants as choice
use Rattle.seq_optimizer.specs.declared.table.Entry.{Entry}
use Rattle.seq_optimizer.specs.declared.table.Planner.{Planner}
use Rattle.seq_optimizer.specs.Compared.{expression_at}
use Rattle.seq_optimizer.specs.Costs.{CanRead, IsChosenWay, IsInterval, scan_cost, step_cost}
use Rattle.seq_optimizer.specs.Estimates.{limit, set_size, variable_sizes}
use Rattle.seq_optimizer.specs.Sets.{in_set}

-- a tree without what follows from the conjuncts
pub data Outline : Type 0 where
  leaf : ℕ → Way → Outline
  node : Outline → Outline → Outline

-- what the costs of outlines rest on: the stats, and what the join of two sets costs beside its sides
pub record World : Type 0 where
  pub stats : List VarStats
  pub more : ℕ → ℕ → ℕ

-- what the join of two sets costs under a method
unfoldable pub node_step : List Expression → List VarStats → Method → ℕ → ℕ → ℕ
node_step cs stats m x y =
    step_cost (method_at m (keys_of (in_set x) (in_set y) cs)) (set_size cs (variable_sizes cs stats) (in_set x)) (set_size cs (variable_sizes cs stats) (in_set y)) (set_size cs (variable_sizes cs stats) (in_set (x + y)))

abbrev pub world_of : List Expression → List VarStats → Method → World
world_of cs stats m = record { stats = stats; more = node_step cs stats m }

-- the number of an outline's set
unfoldable pub mask_of : Outline → ℕ
mask_of (leaf v how) = 2 ^ v
mask_of (node a b) = mask_of a + mask_of b

-- two sets with no variable in common
abbrev pub Apart : ℕ → ℕ → Type 0
Apart x y = bit_and x y ≡ 0

-- an outline over distinct variables, each read in a way that the stats allow
unfoldable pub IsOutline : World → Outline → Type 0
IsOutline w (leaf v how) = (v < length w.stats) × CanRead w.stats v how
IsOutline w (node a b) = Apart (mask_of a) (mask_of b) × IsOutline w a × IsOutline w b

-- the cost of the join of sets x and y, from those of its sides
abbrev pub join_of : World → ℕ → ℕ → ℕ → ℕ → ℕ
join_of w a b x y = min (a + b + w.more x y) limit

unfoldable pub outline_cost : World → Outline → ℕ
outline_cost w (leaf v how) = scan_cost w.stats v how
outline_cost w (node a b) = join_of w (outline_cost w a) (outline_cost w b) (mask_of a) (mask_of b)

-- no outline of the same set costs less
unfoldable pub IsLeastOutline : World → Outline → Type 0
IsLeastOutline w t = (u : Outline) → IsOutline w u → mask_of u ≡ mask_of t → outline_cost w t ≤ outline_cost w u

-- of the joins that cost as little, none has a first side with a smaller number
abbrev pub HasFirstNode : World → Outline → Outline → Type 0
HasFirstNode w a b = (c d : Outline) → IsOutline w (node c d) → mask_of (node c d) ≡ mask_of (node a b) → outline_cost w (node c d) ≡ outline_cost w (node a b) → mask_of a ≤ mask_of c

-- the outline of the chosen tree of its set
unfoldable pub IsChosenOutline : World → Outline → Type 0
IsChosenOutline w (leaf v how) = IsChosenWay w.stats v how
IsChosenOutline w (node a b) = IsLeastOutline w (node a b) × HasFirstNode w a b × IsChosenOutline w a × IsChosenOutline w b

-- the table says that the chosen tree of set m has this outline
unfoldable pub Says : List Entry → ℕ → Outline → Type 0
Says table m (leaf v how) = (e : Entry) × (slice_get table m ≡ Some e) × (e.choice ≡ choice.Scan v how)
Says table m (node a b) = (e : Entry) × (slice_get table m ≡ Some e) × (e.choice ≡ choice.Join (mask_of a)) × (mask_of a < m) × (0 < mask_of a)
    × Says table (mask_of a) a × Says table (m - mask_of a) b

-- the cost that the table has for a set
abbrev pub cost_at : List Entry → ℕ → ℕ
cost_at table m = slice_index_or (map (λ e. e.cost) table) m 0

-- set m has its chosen tree in the table, with its cost
pub record Settled (w : World) (table : List Entry) (m : ℕ) : Type 0 where
  pub outline : Outline
  pub says : Says table m outline
  pub is_outline : IsOutline w outline
  pub set : mask_of outline ≡ m
  pub chosen : IsChosenOutline w outline
  pub costs : cost_at table m ≡ outline_cost w outline

-- the sets below m have theirs
abbrev pub SettledBelow : World → List Entry → ℕ → Type 0
SettledBelow w table m = (k : ℕ) → 0 < k → k < m → Settled w table k

-- the cost of the join of the chosen trees of two sets
abbrev pub split_cost : World → List Entry → ℕ → ℕ → ℕ
split_cost w table x y = join_of w (cost_at table x) (cost_at table y) x y

-- that of the split of set m with a first side
abbrev pub split_price : World → List Entry → ℕ → ℕ → ℕ
split_price w table m x = split_cost w table x (m - x)

-- where splits cost so much, set m is split with the least cost, and first among the splits below k that cost as little
abbrev pub BestBelow : (ℕ → ℕ) → ℕ → ℕ → Entry → Type 0
BestBelow price m k e = (b : ℕ) × (e.choice ≡ choice.Join b) × (0 < b) × (b < k) × Apart b (m - b) × (e.cost ≡ price b)
    × ((x : ℕ) → 0 < x → x < k → Apart x (m - x) → (e.cost ≤ price x) × (price x ≡ e.cost → b ≤ x))

abbrev pub NoneBelow : ℕ → ℕ → Type 0
NoneBelow m k = (x : ℕ) → 0 < x → x < k → Apart x (m - x) → ⊥

abbrev pub IsBest : (ℕ → ℕ) → ℕ → ℕ → Option Entry → Type 0
IsBest price m k o = MatchOption o (NoneBelow m k) (BestBelow price m k)

-- the cheaper of the best split so far and a further one
abbrev pub better_of : Option Entry → ℕ → ℕ → Option Entry
better_of None price b = Some (record { cost = price; choice = choice.Join b })
better_of (Some e) price b = if nat_le e.cost price then Some e else Some (record { cost = price; choice = choice.Join b })

-- the scan of a variable that is chosen, with its cost
abbrev pub IsBestScan : World → ℕ → Entry → Type 0
IsBestScan w v e = (how : Way) × (e.choice ≡ choice.Scan v how) × CanRead w.stats v how × IsChosenWay w.stats v how × (e.cost ≡ scan_cost w.stats v how)

-- the estimates of all sets of so many variables
abbrev pub all_sizes : List Expression → List VarStats → List ℕ
all_sizes cs stats = map (λ s. set_size cs (variable_sizes cs stats) (in_set s)) (range_with_len 0 (2 ^ length stats))

-- what a planner holds: at most six variables, intervals that don't end before they begin, and the estimates of all sets
pub record IsPlanner (p : Planner) : Type 0 where
  pub few : length p.stats.now ≤ 6
  pub intervals : All (λ s. IfSome s.interval IsInterval) p.stats.now
  pub sizes : p.sizes.now ≡ all_sizes (map expression_at p.conjuncts.now) p.stats.now

abbrev pub planned : Planner → World
planned p = world_of (map expression_at p.conjuncts.now) p.stats.now p.method
