-- The placed tree of an outline, from those of its sides.
use Rattle.std.proofs.Common.{◌≡◌, ◌∙◌, sym, refl, ap, arith, ℕ, ◌+◌, ◌-◌, ◌^◌, ◌==◌, Bool, false, List}
use Rattle.plan_tree.specs.declared.tree.Way.{Way}
use Rattle.plan_tree.specs.declared.tree.Method.{Method}
use Rattle.rel_meaning.specs.Expression.{Expression}
use Rattle.plan_tree.specs.Trees.{Shape, scan, scan_tests}
use Rattle.seq_optimizer.specs.Placed.{placed, placed_join}
use Rattle.seq_optimizer.specs.Sets.{in_set}
use Rattle.seq_optimizer.specs.Tables.{Outline, leaf, mask_of, node}
use Rattle.seq_optimizer.proofs.Sets.{one_set}

pub placed_scan : (cs : List Expression) (m : Method) (root : Bool) (v : ℕ) (how : Way) (set : ℕ) (x : Shape) (t : Outline) → t ≡ leaf v how → mask_of t ≡ set → x ≡ scan v how (scan_tests root (in_set set) cs) → x ≡ placed cs m root t
unfolding placed mask_of
placed_scan cs m root v how set x t is here e =
    let number : set ≡ 2 ^ v = sym here ∙ ap mask_of is in
    let one : in_set set ≡ (λ u. v == u) = ap (λ (n : ℕ). in_set n) number ∙ one_set v in
    e ∙ rw (is, one) refl

pub placed_node : (cs : List Expression) (m : Method) (root : Bool) (b set : ℕ) (t left right : Outline) (x y z : Shape) → t ≡ node left right → mask_of left ≡ b → mask_of t ≡ set
    → x ≡ placed cs m false left → y ≡ placed cs m false right → z ≡ placed_join cs m root b (set - b) x y → z ≡ placed cs m root t
unfolding placed mask_of
placed_node cs m root b set t left right x y z is part here p q e =
    let sum : mask_of left + mask_of right ≡ set = sym (ap mask_of is) ∙ here in
    let other : set - b ≡ mask_of right = omega arith in
    e ∙ rw (is, p, q, other, ← part) refl

pub right_set : (t left right : Outline) (b set : ℕ) → t ≡ node left right → mask_of left ≡ b → mask_of t ≡ set → mask_of right ≡ set - b
unfolding mask_of
right_set t left right b set is part here =
    let sum : mask_of left + mask_of right ≡ set = sym (ap mask_of is) ∙ here in
    omega arith
