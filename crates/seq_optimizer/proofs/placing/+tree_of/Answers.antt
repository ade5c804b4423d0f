use Rattle.std.proofs.Common.{arith, ◌≡◌, ◌<◌, ◌-◌, map}
use Rattle.std.proofs.lemmas.Result.{IfOk-weaker}
use Rattle.seq_optimizer.specs.Compared.{expression_at}
use Rattle.plan_tree.specs.declared.tree.Tree.{Tree}
use Rattle.plan_tree.specs.Trees.{scan, scan_tests}
use Rattle.plan_tree.specs.Views.{shape_of}
use Rattle.seq_optimizer.specs.Placed.{placed, placed_join}
use Rattle.seq_optimizer.specs.Sets.{in_set}
use Rattle.seq_optimizer.specs.Tables.{Outline, Says, mask_of}
use Rattle.seq_optimizer.proofs.Said.{sides_at, scan_at, within}
use Rattle.seq_optimizer.proofs.PlacedJoins.{placed_node, placed_scan, right_set}
use Rattle.seq_optimizer.proofs.placing.+tree_of.Goals as goal

pub bounds-table-set : goal.bounds-table-set
bounds-table-set t c = within _ _ c.requires.0 c.requires.1

pub overflow_sub-rest : goal.overflow_sub-rest
overflow_sub-rest t c = let s = sides_at _ _ c.in-Join.build _ c.requires.0 c.in-Join.is c.requires.1 in let part : c.in-Join.build < c.args.set = s.part in omega arith

pub tree_of-requires : goal.tree_of-requires
tree_of-requires t c =
    let s = sides_at _ _ c.in-Join.build _ c.requires.0 c.in-Join.is c.requires.1 in
    let part : c.in-Join.build < c.args.set = s.part in
    (omega (arith, c.decreases), (s.left, s.says_left, s.left_set))

pub tree_of-requires-in-Join : goal.tree_of-requires-in-Join
tree_of-requires-in-Join t c =
    let s = sides_at _ _ c.in-Join.build _ c.requires.0 c.in-Join.is c.requires.1 in
    let some : 0 < c.in-Join.build = s.some in
    let part : c.in-Join.build < c.args.set = s.part in
    (omega (arith, c.decreases), (s.right, s.says_right, right_set _ s.left s.right _ _ s.is s.left_set c.requires.2))

pub returns-in-Scan : goal.returns-in-Scan
returns-in-Scan t c =
    let cs = map expression_at c.args.planner.now.conjuncts.now in
    let m = c.args.planner.now.method in
    IfOk-weaker c.scan_of.result (λ (r : Tree). shape_of r ≡ scan c.in-Scan.var c.in-Scan.way (scan_tests c.args.is_root (in_set c.args.set) cs))
    (λ (r : Tree). (u : Outline) → Says c.args.table.now c.args.set u → mask_of u ≡ c.args.set → shape_of r ≡ placed cs m c.args.is_root u)
    (λ r e u said here. placed_scan cs m c.args.is_root c.in-Scan.var c.in-Scan.way c.args.set (shape_of r) u (scan_at _ _ _ _ _ u c.in-Scan.is said) here e)
    c.scan_of.ensures

pub returns-in_ok-second-in-Join : goal.returns-in_ok-second-in-Join
returns-in_ok-second-in-Join t c =
    let cs = map expression_at c.args.planner.now.conjuncts.now in
    let m = c.args.planner.now.method in
    let b = c.in-Join.build in
    let first = shape_of c.in_ok-first-in-Join.first in
    let second = shape_of c.in_ok-second-in-Join.second in
    IfOk-weaker c.join_of.result (λ (r : Tree). shape_of r ≡ placed_join cs m c.args.is_root b (c.args.set - b) first second)
    (λ (r : Tree). (u : Outline) → Says c.args.table.now c.args.set u → mask_of u ≡ c.args.set → shape_of r ≡ placed cs m c.args.is_root u)
    (λ r e u said here.
    let s = sides_at _ _ b _ u c.in-Join.is said in
    let right_is = right_set u s.left s.right _ _ s.is s.left_set here in
    placed_node cs m c.args.is_root b c.args.set u s.left s.right first second (shape_of r) s.is s.left_set here
    (c.in_ok-first-in-Join.ensures s.left s.says_left s.left_set) (c.in_ok-second-in-Join.ensures s.right s.says_right right_is) e)
    c.join_of.ensures
