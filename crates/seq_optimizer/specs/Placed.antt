-- The tree of an outline, with each conjunct at its node.
use Rattle.std.specs.Prelude.{ℕ, ◌==◌, Bool, false, List}
use Rattle.rel_meaning.specs.Expression.{Expression}
use Rattle.plan_tree.specs.declared.tree.Method.{Method}
use Rattle.plan_tree.specs.Keys.{keys_of}
use Rattle.plan_tree.specs.Trees.{Shape, join, join_tests, method_at, scan, scan_tests}
use Rattle.seq_optimizer.specs.Sets.{in_set}
use Rattle.seq_optimizer.specs.Tables.{Outline, leaf, mask_of, node}

-- the join of two trees whose sets have these numbers
abbrev pub placed_join : List Expression → Method → Bool → ℕ → ℕ → Shape → Shape → Shape
placed_join cs m root x y a b = join (method_at m (keys_of (in_set x) (in_set y) cs)) a b (keys_of (in_set x) (in_set y) cs) (join_tests root (in_set x) (in_set y) cs)

unfoldable pub placed : List Expression → Method → Bool → Outline → Shape
placed cs m root (leaf v how) = scan v how (scan_tests root (λ u. v == u) cs)
placed cs m root (node a b) = placed_join cs m root (mask_of a) (mask_of b) (placed cs m false a) (placed cs m false b)
