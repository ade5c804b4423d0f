-- Which variables a tree scans.
use Rattle.std.proofs.Common.{◌≡◌, refl, ap, subst, arith, ℕ, ◌<◌, ◌≤◌, Bool, true, false, ◌==◌, nat_lt, List}
use Rattle.std.proofs.lemmas.Bool.Decides.{nat_tests}
use Rattle.lists.specs.Arranged.{one_if}
use Rattle.rel_meaning.specs.Expression.{Expression}
use Rattle.plan_tree.specs.declared.tree.Method.{Method}
use Rattle.plan_tree.specs.Trees.{IsTreeOf, Shape, join, one, scan, scans}
use Rattle.seq_optimizer.specs.Costed.{AreScans, ScansBelow}
use Rattle.seq_optimizer.specs.Costs.{HasIntervals}

pub if_one : (b : Bool) → 0 < one_if b → b ≡ true
if_one true h = refl
if_one false h = absurd (omega arith)

pub scans_itself : (v : ℕ) → one_if (v == v) ≡ 1
scans_itself v = let same : (v == v) ≡ true = grind (arith, nat_tests) in ap one_if same

-- only variables below n are scanned
pub are_scans : (n : ℕ) (t : Shape) → ((v : ℕ) → 0 < scans t v → v < n) → HasIntervals t → AreScans n t
are_scans n (one tests) below h = tt
are_scans n (scan v how tests) below h = (below v (let itself = scans_itself v in omega (arith, itself)), h)
are_scans n (join kind a b keys tests) below h =
    (are_scans n a (λ v k. below v (omega (arith, k))) h.0, are_scans n b (λ v k. below v (omega (arith, k))) h.1)

pub scans_below : (n : ℕ) (t : Shape) → ((v : ℕ) → 0 < scans t v → v < n) → ScansBelow n t
scans_below n (one tests) below = tt
scans_below n (scan v how tests) below = below v (let itself = scans_itself v in omega (arith, itself))
scans_below n (join kind a b keys tests) below = (scans_below n a (λ v k. below v (omega (arith, k))), scans_below n b (λ v k. below v (omega (arith, k))))

-- a scan below a number is below a greater one
pub scans_within : (n m : ℕ) (t : Shape) → n ≤ m → ScansBelow n t → ScansBelow m t
scans_within n m (one tests) le h = tt
scans_within n m (scan v how tests) le h = omega arith
scans_within n m (join kind a b keys tests) le h = (scans_within n m a le h.0, scans_within n m b le h.1)

pub tree_scans : (cs : List Expression) (m : Method) (root : Bool) (n : ℕ) (t : Shape) → IsTreeOf cs m root (λ v. nat_lt v n) t → (v : ℕ) → 0 < scans t v → v < n
tree_scans cs m root n t h v some =
    let there : nat_lt v n ≡ true = if_one (nat_lt v n) (subst (λ (k : ℕ). 0 < k) (h.once v) some) in
    grind (arith, nat_tests)
