-- The plan of a query without variables.
use Rattle.std.proofs.Common.{◌≡◌, sym, refl, arith, ℕ, ◌<◌, ◌≤◌, Bool, true, false, List, length, nat_lt}
use Rattle.std.proofs.lemmas.Bool.Decides.{nat_tests}
use Rattle.lists.specs.Arranged.{one_if}
use Rattle.rel_meaning.specs.Expression.{Expression, Question}
use Rattle.plan_tree.specs.declared.tree.Method.{Method}
use Rattle.plan_tree.specs.Conjuncts.{conjuncts}
use Rattle.plan_tree.specs.Trees.{IsPlaced, IsTree, Shape, join, one, scan, scans}
use Rattle.seq_optimizer.specs.declared.stats.VarStats.{VarStats}
use Rattle.seq_optimizer.specs.Best.{IsBestTree}
use Rattle.seq_optimizer.specs.Costs.{FitsStats, IsChosen, cost}
use Rattle.seq_optimizer.proofs.Scanned.{scans_itself}

-- a side of a join scans a variable
pub side_scans : (cs : List Expression) (t : Shape) → IsPlaced cs false t → (v : ℕ) × (0 < scans t v)
side_scans cs (one tests) placed = absurd placed
side_scans cs (scan v how tests) placed = (v, let itself = scans_itself v in omega (arith, itself))
side_scans cs (join k a b keys tests) placed =
    let left = side_scans cs a placed.0 in
    let some : 0 < scans a left.0 = left.1 in
    (left.0, omega (arith, some))

never_below : (v n : ℕ) → n ≡ 0 → one_if (nat_lt v n) ≡ 0
never_below v n e = by (nat_lt v n) refl where
  by : (b : Bool) → nat_lt v n ≡ b → one_if b ≡ 0
  by true h = absurd (let lt : v < n = grind (arith, nat_tests) in omega (arith, lt, e))
  by false h = refl

module _ (q : Question) (stats : List VarStats) (m : Method) (none : length q.vars ≡ 0) where
  least_one : (u : Shape) → IsTree q m u → FitsStats stats u → 1 ≤ cost (conjuncts q.test) stats u
  least_one (one tests) tree fits = omega arith
  least_one (scan v how tests) tree fits = absurd (let here = tree.once v in let itself = scans_itself v in let never = never_below v (length q.vars) none in omega (arith, here, itself, never))
  least_one (join k a b keys tests) tree fits = absurd (
      let left = side_scans (conjuncts q.test) a tree.placed.0 in
      let some : 0 < scans a left.0 = left.1 in
      let here = tree.once left.0 in
      let never = never_below left.0 (length q.vars) none in
      omega (arith, some, here, never))

  pub one_best : IsBestTree q stats m (one (conjuncts q.test)) 1
  unfolding IsChosen
  one_best = record {
    tree = record { once = λ v. sym (never_below v (length q.vars) none); placed = refl; methods = tt };
    fits = tt;
    chosen = tt;
    costs = refl;
    least = least_one;
  }
