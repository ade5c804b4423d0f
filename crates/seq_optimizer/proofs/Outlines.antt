-- Trees and their outlines.
use Rattle.std.proofs.Common.{◌≡◌, ◌∙◌, refl, arith, ℕ, ◌+◌, ◌<◌, ◌≤◌, min, Bool, true, false, ◌||◌, List, length}
use Rattle.rel_meaning.specs.Expression.{Expression}
use Rattle.rows.specs.declared.plain.KeyPair.{KeyPair}
use Rattle.plan_tree.specs.declared.tree.Method.{Method}
use Rattle.plan_tree.specs.declared.tree.Way.TheVariants as way
use Rattle.plan_tree.specs.Keys.{keys_of}
use Rattle.plan_tree.specs.Trees.{HasMethods, IsPlaced, Shape, has, join, method_at, one, scan, scans}
use Rattle.seq_optimizer.specs.declared.stats.VarStats.{VarStats}
use Rattle.seq_optimizer.specs.Costs.{FitsStats, cost, number_of, step_cost}
use Rattle.seq_optimizer.specs.Estimates.{limit, set_size, variable_sizes}
use Rattle.seq_optimizer.specs.Placed.{placed}
use Rattle.seq_optimizer.specs.Sets.{in_set}
use Rattle.seq_optimizer.specs.Tables.{IsOutline, Outline, leaf, mask_of, node, node_step, outline_cost, world_of}
use Rattle.seq_optimizer.proofs.Numbers.{has_number, left_once, right_once, sides_apart}
use Rattle.seq_optimizer.proofs.Scanned.{scans_itself}

-- the outline of a tree
abbrev pub bare : Shape → Outline
bare (one tests) = leaf 0 way.Heap
bare (scan v how tests) = leaf v how
bare (join k a b keys tests) = node (bare a) (bare b)

module _ (cs : List Expression) (stats : List VarStats) (m : Method) where
  -- a side of a join has the number of its outline
  pub side_mask : (t : Shape) → IsPlaced cs false t → mask_of (bare t) ≡ number_of t
  unfolding mask_of
  side_mask (one tests) placed = absurd placed
  side_mask (scan v how tests) placed = refl
  side_mask (join k a b keys tests) placed =
      let left = side_mask a placed.0 in
      let right = side_mask b placed.1 in
      omega (arith, left, right)

  pub tree_mask : (root : Bool) (t : Shape) → 0 < number_of t → IsPlaced cs root t → mask_of (bare t) ≡ number_of t
  unfolding mask_of
  tree_mask root (one tests) some placed = absurd (omega (arith, some))
  tree_mask root (scan v how tests) some placed = refl
  tree_mask true (join k a b keys tests) some placed = let left = side_mask a placed.0 in let right = side_mask b placed.1 in omega (arith, left, right)
  tree_mask false (join k a b keys tests) some placed = let left = side_mask a placed.0 in let right = side_mask b placed.1 in omega (arith, left, right)

  node_outline : (a b : Shape) → ((v : ℕ) → scans b v + scans a v ≤ 1) → IsPlaced cs false a → IsPlaced cs false b
      → IsOutline (world_of cs stats m) (bare a) → IsOutline (world_of cs stats m) (bare b) → IsOutline (world_of cs stats m) (node (bare a) (bare b))
  unfolding IsOutline
  node_outline a b once p q x y = (rw (side_mask a p, side_mask b q) (sides_apart a b once), x, y)

  leaf_outline : (v : ℕ) (how : _) (tests : List Expression) → ((u : ℕ) → 0 < scans (scan v how tests) u → u < length stats) → FitsStats stats (scan v how tests) → IsOutline (world_of cs stats m) (leaf v how)
  unfolding IsOutline
  leaf_outline v how tests below fits = (below v (let itself = scans_itself v in omega (arith, itself)), fits)

  side_outline : (t : Shape) → ((v : ℕ) → scans t v ≤ 1) → ((v : ℕ) → 0 < scans t v → v < length stats) → IsPlaced cs false t → FitsStats stats t → IsOutline (world_of cs stats m) (bare t)
  side_outline (one tests) once below placed fits = absurd placed
  side_outline (scan v how tests) once below placed fits = leaf_outline v how tests below fits
  side_outline (join k a b keys tests) once below placed fits =
      node_outline a b once placed.0 placed.1
      (side_outline a (λ j. left_once (scans a j) (scans b j) (once j)) (λ v h. below v (omega (arith, h))) placed.0 fits.0)
      (side_outline b (λ j. right_once (scans a j) (scans b j) (once j)) (λ v h. below v (omega (arith, h))) placed.1 fits.1)

  sides_outline : (a b : Shape) → ((v : ℕ) → scans b v + scans a v ≤ 1) → ((v : ℕ) → 0 < scans b v + scans a v → v < length stats) → IsPlaced cs false a → IsPlaced cs false b → FitsStats stats a → FitsStats stats b
      → IsOutline (world_of cs stats m) (node (bare a) (bare b))
  sides_outline a b once below p q x y =
      node_outline a b once p q
      (side_outline a (λ j. left_once (scans a j) (scans b j) (once j)) (λ v h. below v (omega (arith, h))) p x)
      (side_outline b (λ j. right_once (scans a j) (scans b j) (once j)) (λ v h. below v (omega (arith, h))) q y)

  -- a tree that scans something has an outline
  pub tree_outline : (root : Bool) (t : Shape) → 0 < number_of t → ((v : ℕ) → scans t v ≤ 1) → ((v : ℕ) → 0 < scans t v → v < length stats) → IsPlaced cs root t → FitsStats stats t → IsOutline (world_of cs stats m) (bare t)
  tree_outline root (one tests) some once below placed fits = absurd (omega (arith, some))
  tree_outline root (scan v how tests) some once below placed fits = leaf_outline v how tests below fits
  tree_outline true (join k a b keys tests) some once below placed fits = sides_outline a b once below placed.0 placed.1 fits.0 fits.1
  tree_outline false (join k a b keys tests) some once below placed fits = sides_outline a b once below placed.0 placed.1 fits.0 fits.1

  -- what a join costs beside its sides, by the numbers of their sets
  step_by_number : (k : Method) (a b : Shape) (keys : List KeyPair) (tests : List Expression) → ((v : ℕ) → scans b v + scans a v ≤ 1) → k ≡ method_at m keys → keys ≡ keys_of (has a) (has b) cs
      → step_cost k (set_size cs (variable_sizes cs stats) (has a)) (set_size cs (variable_sizes cs stats) (has b)) (set_size cs (variable_sizes cs stats) (λ v. has a v || has b v)) ≡ node_step cs stats m (number_of a) (number_of b)
  unfolding node_step
  step_by_number k a b keys tests once how pairs =
      let left = has_number a (λ j. left_once (scans a j) (scans b j) (once j)) in
      let right = has_number b (λ j. right_once (scans a j) (scans b j) (once j)) in
      let both : (λ v. has a v || has b v) ≡ in_set (number_of a + number_of b) = has_number (join k a b keys tests) once in
      rw (how, pairs, both, left, right) refl

  joined_cost : (x y z p q s t : ℕ) → x ≡ p → y ≡ q → z ≡ t → min (x + y + z) limit ≡ min (p + q + t) limit
  joined_cost x y z p q s t d e f = rw (d, e, f) refl

  join_cost_is : (k : Method) (a b : Shape) (keys : List KeyPair) (tests : List Expression) → ((v : ℕ) → scans b v + scans a v ≤ 1) → IsPlaced cs false a → IsPlaced cs false b → k ≡ method_at m keys → keys ≡ keys_of (has a) (has b) cs
      → cost cs stats a ≡ outline_cost (world_of cs stats m) (bare a) → cost cs stats b ≡ outline_cost (world_of cs stats m) (bare b) → cost cs stats (join k a b keys tests) ≡ outline_cost (world_of cs stats m) (node (bare a) (bare b))
  unfolding outline_cost
  join_cost_is k a b keys tests once p q how pairs x y =
      let step = step_by_number k a b keys tests once how pairs in
      let left = side_mask a p in
      let right = side_mask b q in
      joined_cost _ _ _ (outline_cost (world_of cs stats m) (bare a)) (outline_cost (world_of cs stats m) (bare b)) 0 (node_step cs stats m (mask_of (bare a)) (mask_of (bare b))) x y (step ∙ rw (left, right) refl)

  side_cost : (t : Shape) → ((v : ℕ) → scans t v ≤ 1) → IsPlaced cs false t → HasMethods m t → cost cs stats t ≡ outline_cost (world_of cs stats m) (bare t)
  unfolding outline_cost
  side_cost (one tests) once placed methods = absurd placed
  side_cost (scan v how tests) once placed methods = refl
  side_cost (join k a b keys tests) once placed methods =
      join_cost_is k a b keys tests once placed.0 placed.1 methods.2 placed.2
      (side_cost a (λ j. left_once (scans a j) (scans b j) (once j)) placed.0 methods.0)
      (side_cost b (λ j. right_once (scans a j) (scans b j) (once j)) placed.1 methods.1)

  sides_cost : (k : Method) (a b : Shape) (keys : List KeyPair) (tests : List Expression) → ((v : ℕ) → scans b v + scans a v ≤ 1) → IsPlaced cs false a → IsPlaced cs false b → keys ≡ keys_of (has a) (has b) cs → HasMethods m (join k a b keys tests)
      → cost cs stats (join k a b keys tests) ≡ outline_cost (world_of cs stats m) (node (bare a) (bare b))
  sides_cost k a b keys tests once p q pairs methods =
      join_cost_is k a b keys tests once p q methods.2 pairs
      (side_cost a (λ j. left_once (scans a j) (scans b j) (once j)) p methods.0)
      (side_cost b (λ j. right_once (scans a j) (scans b j) (once j)) q methods.1)

  -- a tree costs what its outline does
  pub tree_cost : (root : Bool) (t : Shape) → 0 < number_of t → ((v : ℕ) → scans t v ≤ 1) → IsPlaced cs root t → HasMethods m t → cost cs stats t ≡ outline_cost (world_of cs stats m) (bare t)
  unfolding outline_cost
  tree_cost root (one tests) some once placed methods = absurd (omega (arith, some))
  tree_cost root (scan v how tests) some once placed methods = refl
  tree_cost true (join k a b keys tests) some once placed methods = sides_cost k a b keys tests once placed.0 placed.1 placed.2 methods
  tree_cost false (join k a b keys tests) some once placed methods = sides_cost k a b keys tests once placed.0 placed.1 placed.2 methods
