-- The placed tree of a chosen outline is the chosen tree.
use Rattle.std.proofs.Common.{◌≡◌, ◌∙◌, sym, refl, ap, subst, arith, ℕ, zero, suc, ◌+◌, ◌-◌, ◌^◌, ◌<◌, ◌≤◌, Bool, true, false, ◌==◌, List, length, nat_lt}
use Rattle.std.specs.Int.{bit_at}
use Rattle.std.proofs.lemmas.Bool.Decides.{nat_tests}
use Rattle.std.proofs.lemmas.Nat.Bits.{bit_at-lt, bit_at_ones, bit_at_ones_above, same_from_bits}
use Rattle.lists.specs.Arranged.{one_if}
use Rattle.rel_meaning.specs.Expression.{Expression, Question}
use Rattle.rows.specs.declared.plain.KeyPair.{KeyPair}
use Rattle.plan_tree.specs.declared.tree.Method.{Method}
use Rattle.plan_tree.specs.Conjuncts.{conjuncts}
use Rattle.plan_tree.specs.Trees.{HasMethods, IsPlaced, IsTree, IsTreeOf, Shape, has, is_variable, join, scans}
use Rattle.seq_optimizer.specs.declared.stats.VarStats.{VarStats}
use Rattle.seq_optimizer.specs.Best.{IsBestTree, IsFound}
use Rattle.seq_optimizer.specs.Costs.{FitsStats, HasFirstSide, IsChosen, IsLeast, cost, number_of}
use Rattle.seq_optimizer.specs.Placed.{placed, placed_join}
use Rattle.seq_optimizer.specs.Sets.{in_set}
use Rattle.seq_optimizer.specs.Tables.{HasFirstNode, IsChosenOutline, IsLeastOutline, IsOutline, Outline, leaf, mask_of, node, outline_cost, world_of}
use Rattle.seq_optimizer.proofs.Least.{chosen_least, has_variable}
use Rattle.seq_optimizer.proofs.Numbers.{apart_bits, has_number, has_scans, number_bits, power_bit, sum_bits}
use Rattle.seq_optimizer.proofs.Outlines.{bare, side_mask, tree_cost, tree_mask, tree_outline}
use Rattle.seq_optimizer.proofs.Scanned.{if_one}
use Rattle.seq_optimizer.proofs.Sets.{first_set}

same_variable : (v w : ℕ) → 0 < one_if (v == w) → v ≡ w
same_variable v w h = let same : (v == w) ≡ true = if_one (v == w) h in grind (arith, nat_tests)

few : (n : ℕ) → n < 2 → n ≤ 1
few n h = omega arith

one_bit : (b : Bool) → one_if b ≤ 1
one_bit true = omega arith
one_bit false = omega arith

module _ (cs : List Expression) (stats : List VarStats) (m : Method) where
  placed_number : (root : Bool) (o : Outline) → number_of (placed cs m root o) ≡ mask_of o
  unfolding placed mask_of
  placed_number root (leaf v how) = refl
  placed_number root (node a b) = let left = placed_number false a in let right = placed_number false b in omega (arith, left, right)

  -- the placed tree scans the variables of its outline's number
  placed_scans : (root : Bool) (o : Outline) → IsOutline (world_of cs stats m) o → (v : ℕ) → scans (placed cs m root o) v ≡ bit_at (mask_of o) v
  unfolding placed mask_of IsOutline
  placed_scans root (leaf w how) is v = sym (power_bit w v)
  placed_scans root (node a b) is v =
      let left = placed_scans false a is.1 v in
      let right = placed_scans false b is.2 v in
      let both = sum_bits v (mask_of a) (mask_of b) (apart_bits (mask_of a) (mask_of b) is.0) in
      omega (arith, left, right, both)

  placed_once : (root : Bool) (o : Outline) → IsOutline (world_of cs stats m) o → (v : ℕ) → scans (placed cs m root o) v ≤ 1
  placed_once root o is v = let here = placed_scans root o is v in let low = bit_at-lt (mask_of o) v in omega (arith, here, low)

  placed_has : (root : Bool) (o : Outline) → IsOutline (world_of cs stats m) o → has (placed cs m root o) ≡ in_set (mask_of o)
  placed_has root o is = has_number (placed cs m root o) (placed_once root o is) ∙ ap (λ (n : ℕ). in_set n) (placed_number root o)

  bare_placed : (root : Bool) (o : Outline) → bare (placed cs m root o) ≡ o
  unfolding placed
  bare_placed root (leaf v how) = refl
  bare_placed root (node a b) = let left = bare_placed false a in let right = bare_placed false b in rw (left, right) refl

  placed_fits : (root : Bool) (o : Outline) → IsOutline (world_of cs stats m) o → FitsStats stats (placed cs m root o)
  unfolding placed IsOutline
  placed_fits root (leaf v how) is = is.1
  placed_fits root (node a b) is = (placed_fits false a is.1, placed_fits false b is.2)

  placed_methods : (root : Bool) (o : Outline) → HasMethods m (placed cs m root o)
  unfolding placed
  placed_methods root (leaf v how) = tt
  placed_methods root (node a b) = (placed_methods false a, placed_methods false b, refl)

  join_placed : (root : Bool) (a b : Outline) → IsOutline (world_of cs stats m) a → IsOutline (world_of cs stats m) b → IsPlaced cs false (placed cs m false a) → IsPlaced cs false (placed cs m false b)
      → IsPlaced cs root (placed_join cs m root (mask_of a) (mask_of b) (placed cs m false a) (placed cs m false b))
  join_placed true a b is-a is-b p q =
      let left = sym (placed_has false a is-a) in
      let right = sym (placed_has false b is-b) in
      (p, q, rw (left, right) refl, rw (left, right) refl)
  join_placed false a b is-a is-b p q =
      let left = sym (placed_has false a is-a) in
      let right = sym (placed_has false b is-b) in
      (p, q, rw (left, right) refl, rw (left, right) refl)

  placed_placed : (root : Bool) (o : Outline) → IsOutline (world_of cs stats m) o → IsPlaced cs root (placed cs m root o)
  unfolding placed IsOutline
  placed_placed true (leaf v how) is = refl
  placed_placed false (leaf v how) is = refl
  placed_placed root (node a b) is = join_placed root a b is.1 is.2 (placed_placed false a is.1) (placed_placed false b is.2)

  -- only variables that have stats are scanned
  placed_below : (root : Bool) (o : Outline) → IsOutline (world_of cs stats m) o → (v : ℕ) → 0 < scans (placed cs m root o) v → v < length stats
  unfolding placed IsOutline
  placed_below root (leaf w how) is v some = let same = same_variable v w some in rw same is.0
  placed_below root (node a b) is v some = by (scans (placed cs m false a) v) refl some (placed_below false a is.1 v) (placed_below false b is.2 v) where
    by : (n : ℕ) → scans (placed cs m false a) v ≡ n → 0 < scans (placed cs m false b) v + scans (placed cs m false a) v → (0 < scans (placed cs m false a) v → v < length stats) → (0 < scans (placed cs m false b) v → v < length stats) → v < length stats
    by zero e h left right = right (omega (arith, e, h))
    by (suc n) e h left right = left (omega (arith, e))

  placed_some : (root : Bool) (o : Outline) → 0 < number_of (placed cs m root o)
  placed_some root o = let same = placed_number root o in let some = has_variable o in omega (arith, same, some)

  placed_cost : (root : Bool) (o : Outline) → IsOutline (world_of cs stats m) o → cost cs stats (placed cs m root o) ≡ outline_cost (world_of cs stats m) o
  placed_cost root o is =
      tree_cost cs stats m root (placed cs m root o) (placed_some root o) (placed_once root o is) (placed_placed root o is) (placed_methods root o)
      ∙ ap (λ (t : Outline). outline_cost (world_of cs stats m) t) (bare_placed root o)

  -- a tree of the variables of an outline, seen as an outline
  module _ (root : Bool) (o : Outline) (is : IsOutline (world_of cs stats m) o) (u : Shape) (tree : IsTreeOf cs m root (has (placed cs m root o)) u) (fits : FitsStats stats u) where
    other_once : (v : ℕ) → scans u v ≤ 1
    other_once v = let here = tree.once v in let low = one_bit (has (placed cs m root o) v) in omega (arith, here, low)

    back_bits : (n : ℕ) → n < 2 → one_if (n == 1) ≡ n
    back_bits zero h = refl
    back_bits (suc zero) h = refl
    back_bits (suc (suc n)) h = absurd (omega arith)

    same_scans : (v : ℕ) → scans u v ≡ scans (placed cs m root o) v
    same_scans v =
        let low = placed_once root o is v in
        tree.once v ∙ ap one_if (has_scans (placed cs m root o) (placed_once root o is) v) ∙ back_bits (scans (placed cs m root o) v) (omega (arith, low))

    other_number : number_of u ≡ mask_of o
    other_number = same_from_bits (number_of u) (mask_of o) (λ v. number_bits u other_once v ∙ same_scans v ∙ placed_scans root o is v)

    other_some : 0 < number_of u
    other_some = let some = has_variable o in let same = other_number in omega (arith, some, same)

    other_below : (v : ℕ) → 0 < scans u v → v < length stats
    other_below v some = placed_below root o is v (subst (λ (n : ℕ). 0 < n) (same_scans v) some)

    other_outline : IsOutline (world_of cs stats m) (bare u)
    other_outline = tree_outline cs stats m root u other_some other_once other_below tree.placed fits

    other_mask : mask_of (bare u) ≡ mask_of o
    other_mask = tree_mask cs stats m root u other_some tree.placed ∙ other_number

    other_cost : cost cs stats u ≡ outline_cost (world_of cs stats m) (bare u)
    other_cost = tree_cost cs stats m root u other_some other_once tree.placed tree.methods

  -- no tree of its variables costs less
  least_placed : (root : Bool) (o : Outline) → IsOutline (world_of cs stats m) o → IsLeastOutline (world_of cs stats m) o → IsLeast cs stats m root (placed cs m root o)
  unfolding IsLeast IsLeastOutline
  least_placed root o is least u tree fits =
      let low = least (bare u) (other_outline root o is u tree fits) (other_mask root o is u tree fits) in
      rw (placed_cost root o is, other_cost root o is u tree fits) low

  first_mask : (root : Bool) (kind : Method) (c d : Shape) (keys : List KeyPair) (tests : List Expression) → IsPlaced cs root (join kind c d keys tests) → mask_of (bare c) ≡ number_of c
  first_mask true kind c d keys tests placed = side_mask cs stats m c placed.0
  first_mask false kind c d keys tests placed = side_mask cs stats m c placed.0

  first_placed : (root : Bool) (a b : Outline) → IsOutline (world_of cs stats m) (node a b) → HasFirstNode (world_of cs stats m) a b → HasFirstSide cs stats m root (placed cs m root (node a b)) (mask_of a)
  unfolding HasFirstSide
  first_placed root a b is first kind c d keys tests tree fits same =
      let u = join kind c d keys tests in
      let price : outline_cost (world_of cs stats m) (bare u) ≡ outline_cost (world_of cs stats m) (node a b) = sym (other_cost root (node a b) is u tree fits) ∙ same ∙ placed_cost root (node a b) is in
      let low : mask_of a ≤ mask_of (bare c) = first (bare c) (bare d) (other_outline root (node a b) is u tree fits) (other_mask root (node a b) is u tree fits) price in
      let number = first_mask root kind c d keys tests tree.placed in
      omega (arith, low, number)

  chosen_placed : (root : Bool) (o : Outline) → IsOutline (world_of cs stats m) o → IsChosenOutline (world_of cs stats m) o → IsChosen cs stats m root (placed cs m root o)
  unfolding placed IsOutline IsChosen IsChosenOutline
  chosen_placed root (leaf v how) is h = h
  chosen_placed root (node a b) is h =
      (least_placed root (node a b) is h.0, rw (placed_number false a) (first_placed root a b is h.1), chosen_placed false a is.1 h.2, chosen_placed false b is.2 h.3)

whole_bit : (n v : ℕ) → bit_at (2 ^ n - 1) v ≡ one_if (nat_lt v n)
whole_bit n v = by (nat_lt v n) refl where
  by : (b : Bool) → nat_lt v n ≡ b → bit_at (2 ^ n - 1) v ≡ one_if (nat_lt v n)
  by true e = bit_at_ones n v (grind (arith, nat_tests)) ∙ ap one_if (sym e)
  by false e = bit_at_ones_above n v (grind (arith, nat_tests)) ∙ ap one_if (sym e)

module _ (q : Question) (stats : List VarStats) (m : Method) where
  module _ (each : length stats ≡ length q.vars) (o : Outline) (is : IsOutline (world_of (conjuncts q.test) stats m) o) (set : mask_of o ≡ 2 ^ length stats - 1) where
    whole_number : mask_of o ≡ 2 ^ length q.vars - 1
    whole_number = set ∙ ap (λ (n : ℕ). 2 ^ n - 1) each

    all_scans : (v : ℕ) → scans (placed (conjuncts q.test) m true o) v ≡ one_if (nat_lt v (length q.vars))
    all_scans v = placed_scans (conjuncts q.test) stats m true o is v ∙ ap (λ (n : ℕ). bit_at n v) whole_number ∙ whole_bit (length q.vars) v

    all_variables : has (placed (conjuncts q.test) m true o) ≡ is_variable q
    all_variables = placed_has (conjuncts q.test) stats m true o is ∙ ap (λ (n : ℕ). in_set n) whole_number ∙ first_set (length q.vars)

    all_least : IsChosenOutline (world_of (conjuncts q.test) stats m) o → (u : Shape) → IsTree q m u → FitsStats stats u → cost (conjuncts q.test) stats (placed (conjuncts q.test) m true o) ≤ cost (conjuncts q.test) stats u
    unfolding IsLeast
    all_least chosen u tree fits =
        least_placed (conjuncts q.test) stats m true o is (chosen_least (world_of (conjuncts q.test) stats m) o is chosen) u
        (subst (λ (f : ℕ → Bool). IsTreeOf (conjuncts q.test) m true f u) (sym all_variables) tree) fits

  -- what the table gives is the plan
  pub found_best : (t : Shape) (price : ℕ) → length stats ≡ length q.vars → IsFound (conjuncts q.test) stats m t price → IsBestTree q stats m t price
  found_best t price each f =
      let priced : price ≡ cost (conjuncts q.test) stats (placed (conjuncts q.test) m true f.outline) = f.costs ∙ sym (placed_cost (conjuncts q.test) stats m true f.outline f.is_outline) in
      rw f.placed_as (record {
        tree = record {
          once = all_scans each f.outline f.is_outline f.set;
          placed = placed_placed (conjuncts q.test) stats m true f.outline f.is_outline;
          methods = placed_methods (conjuncts q.test) stats m true f.outline;
        };
        fits = placed_fits (conjuncts q.test) stats m true f.outline f.is_outline;
        chosen = chosen_placed (conjuncts q.test) stats m true f.outline f.is_outline f.chosen;
        costs = priced;
        least = λ u tree fits. let low = all_least each f.outline f.is_outline f.set f.chosen u tree fits in omega (arith, low, priced);
      })
