-- The plan, from what the table and the builder of trees say.
use Rattle.std.proofs.Common.{◌≡◌, ◌∙◌, sym, ap, arith, ℕ, ◌==◌, ◌-◌, ◌^◌, ◌<◌, List, length, get_or, true, Result, Ok, Err}
use Rattle.std.specs.Prelude.{IfOk}
use Rattle.std.specs.declared.alloc.AllocError.{AllocError}
use Rattle.std.proofs.lemmas.Bool.Decides.{nat_tests}
use Rattle.std.proofs.lemmas.List.{get_or-map}
use Rattle.rel_meaning.specs.Expression.{Expression, Question}
use Rattle.plan_tree.specs.declared.tree.Method.{Method}
use Rattle.plan_tree.specs.Conjuncts.{conjuncts}
use Rattle.plan_tree.specs.Trees.{Shape, one}
use Rattle.plan_tree.specs.Views.{shape_of}
use Rattle.seq_optimizer.specs.declared.stats.VarStats.{VarStats}
use Rattle.seq_optimizer.specs.declared.table.Entry.{Entry}
use Rattle.seq_optimizer.specs.declared.optimising.Found.{Found}
use Rattle.seq_optimizer.specs.Best.{IsBestTree, IsFound}
use Rattle.seq_optimizer.specs.Placed.{placed}
use Rattle.seq_optimizer.specs.Tables.{Outline, Says, Settled, SettledBelow, World, cost_at, mask_of, world_of}
use Rattle.seq_optimizer.proofs.NoVariables.{one_best}
use Rattle.seq_optimizer.proofs.Sets.{some_set, two_sets}

-- the table has the chosen tree of all variables
pub all_settled : (w : World) (table : List Entry) (n m : ℕ) → 0 < n → m ≡ 2 ^ n - 1 → SettledBelow w table (2 ^ n) → Settled w table m
all_settled w table n m some is below =
    let p = some_set n in
    let two = two_sets n some in
    below m (omega arith) (omega arith)

pub found : (cs : List Expression) (stats : List VarStats) (method : Method) (table : List Entry) (m : ℕ) (t : Shape) (e : Entry) → 0 < length stats → m ≡ 2 ^ length stats - 1 → length table ≡ 2 ^ length stats
    → SettledBelow (world_of cs stats method) table (2 ^ length stats) → ((u : Outline) → Says table m u → mask_of u ≡ m → t ≡ placed cs method true u) → e ≡ get_or table m e → IsFound cs stats method t e.cost
found cs stats method table m t e some is len below says read =
    let s = all_settled (world_of cs stats method) table (length stats) m some is below in
    let two = two_sets (length stats) some in
    let lt : m < length table = omega arith in
    let price : e.cost ≡ cost_at table m = ap (λ (x : Entry). x.cost) read ∙ sym (get_or-map (λ (x : Entry). x.cost) table m e 0 lt) in
    record { outline = s.outline; placed_as = says s.outline s.says s.set; is_outline = s.is_outline; set = s.set ∙ is; chosen = s.chosen; costs = price ∙ s.costs }

pub when_empty : (n : ℕ) → true ≡ (n == 0) → n ≡ 0
when_empty n h = let none : (n == 0) ≡ true = sym h in grind (arith, nat_tests)

-- the tree without variables
pub one_found : (q : Question) (stats : List VarStats) (m : Method) → length q.vars ≡ 0 → (cs : List Expression) → cs ≡ conjuncts q.test → (r : Result Found AllocError) → IfOk r (λ f. shape_of f.tree ≡ one cs) → IfOk r (λ f. f.cost ≡ 1)
    → IfOk r (λ f. IsBestTree q stats m (shape_of f.tree) f.cost)
one_found q stats m none cs is (Ok f) tree price = rw (tree, price, is) (one_best q stats m none)
one_found q stats m none cs is (Err e) tree price = tt
