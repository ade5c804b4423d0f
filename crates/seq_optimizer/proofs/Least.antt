-- That the chosen trees are least.
use Rattle.std.proofs.Common.{◌≡◌, ◌∙◌, sym, arith, ℕ, ◌<◌, ◌≤◌, List, Some, Option, subst}
use Rattle.std.proofs.lemmas.Nat.{pow_pos}
use Rattle.plan_tree.specs.declared.tree.Way.{Way}
use Rattle.plan_tree.specs.declared.tree.Way.TheVariants as way
use Rattle.std.specs.Prelude.{IfSome}
use Rattle.rows.specs.declared.plain.Interval.{Interval}
use Rattle.seq_optimizer.specs.declared.stats.VarStats.{VarStats}
use Rattle.seq_optimizer.specs.Costs.{CanRead, IsChosenWay, scan_cost}
use Rattle.seq_optimizer.specs.Estimates.{stats_at}
use Rattle.seq_optimizer.specs.Tables.{IsChosenOutline, IsLeastOutline, IsOutline, Outline, World, leaf, mask_of, node, outline_cost}
use Rattle.seq_optimizer.proofs.Sets.{one_part, same_variable}

pub has_variable : (t : Outline) → 0 < mask_of t
unfolding mask_of
has_variable (leaf v how) = pow_pos v
has_variable (node a b) = let p = has_variable a in omega arith

pub same_interval : (o : Option Interval) (i j : Interval) → o ≡ Some i → o ≡ Some j → i ≡ j
same_interval o i j p q = let both : Some i ≡ Some j = sym p ∙ q in cc

-- the chosen scan costs no more than another
least_way : (stats : List VarStats) (v : ℕ) (how other : Way) → CanRead stats v how → CanRead stats v other → IsChosenWay stats v how → scan_cost stats v how ≤ scan_cost stats v other
least_way stats v way.Heap way.Heap own can h = omega arith
least_way stats v way.Heap (way.Index i) own can h = subst (λ (o : Option Interval). IfSome o (λ j. scan_cost stats v way.Heap ≤ scan_cost stats v (way.Index j))) can h
least_way stats v (way.Index i) way.Heap own can h = omega arith
least_way stats v (way.Index i) (way.Index j) own can h =
    let same : i ≡ j = same_interval (stats_at stats v).interval i j own can in
    rw same (omega arith)

pub chosen_least : (w : World) (t : Outline) → IsOutline w t → IsChosenOutline w t → IsLeastOutline w t
unfolding IsChosenOutline IsLeastOutline IsOutline outline_cost mask_of
chosen_least w (leaf v how) own h (leaf u other) tree same =
    let here : u ≡ v = same_variable u v same in
    rw here (least_way w.stats v how other own.1 (rw here at tree.1) h)
chosen_least w (leaf v how) own h (node c d) tree same = absurd (one_part v (mask_of c) (mask_of d) (has_variable c) (has_variable d) tree.0 same)
chosen_least w (node a b) own h u tree same = h.0 u tree same
