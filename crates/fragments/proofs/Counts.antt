-- How many fragments a tree has, and which variables its scans are of.
use Rattle.std.proofs.Common.{◌≡◌, ℕ, ◌+◌, ◌<◌, ◌≤◌, List, [], ◌∷◌, ◌++◌, length, map, refl, arith, length-append}
use Rattle.rel_meaning.specs.Expression.{Expression}
use Rattle.rows.specs.declared.plain.KeyPair.{KeyPair}
use Rattle.plan_tree.specs.declared.tree.Method.TheVariants.{Hash, Merge}
use Rattle.plan_tree.specs.Pieces.{building}
use Rattle.plan_tree.specs.Trees.{Shape, one, scan, join}
use Rattle.seq_optimizer.specs.Costed.{ScansBelow}
use Rattle.fragments.specs.Homes.{Home}
use Rattle.fragments.specs.Cuts.{Facts, closed, cut_tree, left_sort, right_sort}
use Rattle.fragments.specs.Opened.{fragment_count}
use Rattle.fragments.specs.Premises.{MayScan}

pub scans_below : (home : ℕ → Home) (n : ℕ) (t : Shape) → MayScan home n t → ScansBelow n t
scans_below home n (one tests) h = tt
scans_below home n (scan v how tests) h = h.0
scans_below home n (join m a b keys tests) h = (scans_below home n a h.0, scans_below home n b h.1)

pub cut_length : (facts : Facts) (n : ℕ) (t : Shape) → length (cut_tree facts n t).before + 1 ≡ fragment_count t
cut_length facts n (one tests) = refl
cut_length facts n (scan v how tests) = refl
cut_length facts n (join Hash a b keys tests) =
    let ca = cut_tree facts n a in
    let l = length-append ca.before (closed facts a ca.last (building (map (λ key. key.build) keys)) ∷ (cut_tree facts (n + length ca.before + 1) b).before) in
    omega (arith, l, cut_length facts n a, cut_length facts (n + length ca.before + 1) b)
cut_length facts n (join Merge a b keys tests) =
    let ca = cut_tree facts n a in
    let cb = cut_tree facts (n + length ca.before + 1) b in
    let pb = closed facts b cb.last (right_sort facts b keys) in
    let l = length-append ca.before (closed facts a ca.last (left_sort facts a keys) ∷ (cb.before ++ pb ∷ [])) in
    let m = length-append cb.before (pb ∷ []) in
    omega (arith, l, m, cut_length facts n a, cut_length facts (n + length ca.before + 1) b)
